-- How statements begin, and how the direction of a loop is read.
use Rattle.std.proofs.Common.{◌≡◌, ℕ, suc, ◌<◌, ◌≤◌, Bool, true, false, cond, List, [], ◌∷◌, ◌++◌, Option, Some, None}
use Rattle.std.proofs.Common.{drop, refl, sym as back_of, ap, ◌∙◌, subst}
use Rattle.sp_base.specs.declared.rule.Rule.TheVariants as rule
use Rattle.sp_tree.specs.declared.token.Token.{Token}
use Rattle.sp_tree.specs.declared.token.Kind.{Kind}
use Rattle.sp_tree.specs.declared.token.Kind.TheVariants as kind
use Rattle.sp_tree.specs.Words as w
use Rattle.sp_tree.specs.PlainSyntax as tree
use Rattle.sp_tree.specs.Breaches.{nesting}
use Rattle.sp_tree.specs.Symbols as sym
use Rattle.sp_tree.specs.Symbols.{Symbol, Values, split}
use Rattle.sp_tree.specs.Table as row
use Rattle.sp_tree.specs.Table.{FormRow, RowEntry, Row, row_entry, rows, look, kind_is, form_rows, form_value}
use Rattle.sp_tree.proofs.FromTable.{kind_is-true}
use Rattle.sp_parse.specs.declared.source.Source.{Source}
use Rattle.sp_parse.specs.declared.source.Tokens.{Tokens}
use Rattle.sp_parse.specs.Reads.{breaks, Pending, Looks, Skips, GoesOn, no_kind}
use Rattle.sp_parse.specs.Operators.{is_some, BeginsForm}
use Rattle.sp_parse.proofs.Steps.{step_deep, below, above}
use Rattle.sp_parse.proofs.Rows.{look_map, some_lifted, some_of, none_of, none_at, NoneIs}
use Rattle.sp_parse.proofs.Pending.{row_at, take_row, close}

form_starts : (t : Token) (b : Bool) → BeginsForm t b → (d : ℕ)
    → is_some (look (rows (sym.AStatement d)) t.kind) ≡ b
form_starts t b h d =
    let f : RowEntry (FormRow (suc d)) → RowEntry (Row (sym.AStatement d)) =
    λ e. row_entry e.key e.left (row.statement e.row) in
    ap is_some (look_map f (λ e. refl) (form_rows (suc d)) t.kind) ∙ some_lifted f (look (form_rows (suc d)) t.kind)
    ∙ h (suc d)

pub no_form : (d : ℕ) (t : Token) (b : Bool) → BeginsForm t b → b ≡ false
    → look (rows (sym.AStatement d)) t.kind ≡ None
no_form d t b h e = none_of (look (rows (sym.AStatement d)) t.kind) (form_starts t b h d ∙ e)

pub deep_form : (source : Source) (d : ℕ) (t : Token) (u : List Token) (b : Bool) → BeginsForm t b → b ≡ true
    → nesting ≤ d → (q : List Symbol)
    → breaks source (t ∷ u) (sym.AStatement d ∷ q) ≡ Some (record { rule = rule.L2; at = t.at })
deep_form source d t u b h e n q =
    let (entry, found) = some_of (look (rows (sym.AStatement d)) t.kind) (form_starts t b h d ∙ e) in
    step_deep source (sym.AStatement d) t u entry found (above d nesting n) q

-- the form that begins with a name, where no word begins one
by_name : {A : Type 0} (b : Bool) (x : A) (o : Option A) → is_some (cond b (Some x) o) ≡ true → o ≡ None → b ≡ true
by_name true x o h n = refl
by_name false x o h n = absurd (let y : true ≡ false = back_of h ∙ ap is_some n in cc)

pub name_form : (t : Token) (b : Bool) → BeginsForm t b → b ≡ true
    → NoneIs (drop 1 (form_rows 0)) t.kind → t.kind ≡ kind.Name
name_form t b h e n = back_of (kind_is-true kind.Name t.kind
    (by_name (kind_is kind.Name t.kind) _ _ (h 0 ∙ e) (none_at (drop 1 (form_rows 0)) t.kind n)))

direction_row : (t : Token) → kind_is w.Downto t.kind ≡ false → look (rows sym.ADirection) t.kind
    ≡ cond (kind_is w.To t.kind) (Some (row_entry w.To [] row.upward)) None
direction_row t n = ap (λ x. cond (kind_is w.To t.kind) (Some (row_entry w.To [] row.upward))
    (cond x (Some (row_entry w.Downto [] row.downward)) None)) n

module _ {V : Type 0} {source : Source} {l : List Symbol} {of : Values l → V} where
  form_at : (d : ℕ) {k : Kind} {p : List Symbol} (c : FormRow (suc d) k p)
      → look (rows (sym.AStatement d)) k ≡ Some (row_entry k p (row.statement {d = d} c))
      → look (rows (sym.AStatement d)) no_kind ≡ None → d < nesting
      → {gives : Values (sym.AStatement d ∷ []) → V} {old mid seen new : Tokens} {t : Token} → t.kind ≡ k
      → Pending source l of (sym.AStatement d ∷ []) gives old mid → Looks source mid seen t → Skips source seen new
      → Pending source l of (p ++ [])
      (λ vs. gives (tree.Does t.at (form_value source.text.now c t (split p [] vs).0), (split p [] vs).1)) old new
  form_at d c found absent h same a b s = row_at [] (row.statement c) found absent (below d nesting h) h same a b s

  -- a statement takes its first token
  pub form_on : (d inner : ℕ) {k : Kind} (p : ℕ → List Symbol) (c : (n : ℕ) → FormRow n k (p n))
      → look (rows (sym.AStatement d)) k ≡ Some (row_entry k (p (suc d)) (row.statement {d = d} (c (suc d))))
      → look (rows (sym.AStatement d)) no_kind ≡ None
      → {gives : Values (sym.AStatement d ∷ []) → V} {old mid seen new : Tokens} {t : Token} → t.kind ≡ k
      → inner ≡ suc d → d < nesting
      → Pending source l of (sym.AStatement d ∷ []) gives old mid → Looks source mid seen t → Skips source seen new
      → Pending source l of (p inner ++ [])
      (λ vs. gives (
        tree.Does t.at (form_value source.text.now (c inner) t (split (p inner) [] vs).0),
        (split (p inner) [] vs).1,
      )) old new
  form_on d inner p c found absent {gives} {old} {new = new} {t = t} same e h a b s =
      subst (λ n. Pending source l of (p n ++ [])
      (λ vs. gives (
        tree.Does t.at (form_value source.text.now (c n) t (split (p n) [] vs).0),
        (split (p n) [] vs).1,
      )) old new) (back_of e) (form_at d (c (suc d)) found absent h same a b s)

  -- the direction of a loop
  pub direct : (b : Bool) {m : List Symbol} {gives : Values (sym.ADirection ∷ m) → V} {old mid new : Tokens}
      → Pending source l of (sym.ADirection ∷ m) gives old mid → GoesOn source w.Downto w.To mid new b
      → Pending source l of m (λ vs. gives (b, vs)) old new
  direct true {m} a (t, same, h) = take_row m row.downward refl refl tt same a h
  direct false {m} a h = close m row.upward refl refl (λ t n. direction_row t n) (λ t. refl) a h
