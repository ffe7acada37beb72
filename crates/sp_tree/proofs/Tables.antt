-- Tables of types, each result by those before it (`table`): which result stands where, and how many there are.
use Rattle.std.proofs.Common.{◌≡◌, ℕ, zero, suc, ◌+◌, List, [], ◌∷◌, ◌++◌, Some, None, length}
use Rattle.std.proofs.Common.{sym, ap, ◌∙◌, subst, arith}
use Rattle.std.specs.Prelude.{slice_get, take}
use Rattle.std.proofs.lemmas.List.{append_assoc, length-append, append-nil}
use Rattle.std.proofs.Math.Seq.{take-append_seam}
use Rattle.sp_base.proofs.Facts.{get_front}
use Rattle.sp_tree.specs.declared.checked.KindOf.{KindOf}
use Rattle.sp_tree.specs.Cells.{table}

abbrev grown : {A : Type 0} → (List A → KindOf → A) → List A → List KindOf → List A
grown by known [] = []
grown by known (k ∷ ks) = by known k ∷ grown by (known ++ by known k ∷ []) ks

table_is : {A : Type 0} (by : List A → KindOf → A) (known : List A) (ks : List KindOf)
    → table by known ks ≡ known ++ grown by known ks
table_is by known [] = sym (append-nil known)
table_is by known (k ∷ ks) = table_is by (known ++ by known k ∷ []) ks
    ∙ append_assoc known (by known k ∷ []) (grown by (known ++ by known k ∷ []) ks)

-- the result for type i is by those before it
pub table_get : {A : Type 0} (by : List A → KindOf → A) (ks : List KindOf) (known : List A) (i : ℕ) (t : KindOf)
    → slice_get ks i ≡ Some t
    → slice_get (table by known ks) (length known + i) ≡ Some (by (take (length known + i) (table by known ks)) t)
table_get by [] known i t e = absurd (nothing e)
  where
    nothing : None ≡ Some t → ⊥
    nothing e = cc e
table_get {A} by (k ∷ ks) known zero t e =
    let whole : table by known (k ∷ ks) ≡ known
    ++ (by known k ∷ grown by (known ++ by known k ∷ []) ks) = table_is by known (k ∷ ks) in
    let at : length known + 0 ≡ length known = omega arith in
    let same : k ≡ t = cc e in
    ap (λ n. slice_get (table by known (k ∷ ks)) n) at ∙ ap (λ z. slice_get z (length known)) whole
    ∙ get_front known (grown by (known ++ by known k ∷ []) ks) (by known k)
    ∙ ap (λ z. Some (by known z)) same ∙ ap (λ z. Some (by z t))
    (sym (take-append_seam known (by known k ∷ grown by (known ++ by known k ∷ []) ks))
    ∙ ap (λ z. take (length known) z) (sym whole) ∙ ap (λ n. take n (table by known (k ∷ ks))) (sym at))
table_get by (k ∷ ks) known (suc i) t e =
    let more = known ++ by known k ∷ [] in
    let at : length more + i ≡ length known + suc i = let l = length-append known (by known k ∷ []) in
    omega (arith, l) in
    subst (λ n. slice_get (table by more ks) n ≡ Some (by (take n (table by more ks)) t)) at
    (table_get by ks more i t e)

-- a result for each type
pub table_long : {A : Type 0} (by : List A → KindOf → A) (ks : List KindOf) (known : List A)
    → length (table by known ks) ≡ length known + length ks
table_long by [] known = omega arith
table_long by (k ∷ ks) known =
    let rest = table_long by ks (known ++ by known k ∷ []) in
    let l = length-append known (by known k ∷ []) in omega (arith, rest, l)
