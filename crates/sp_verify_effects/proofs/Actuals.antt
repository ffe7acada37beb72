-- The variables of operands for reference formals.
use Rattle.std.proofs.Common.{◌≡◌, refl, sym, ap, ◌∙◌, ℕ, zero, suc, ◌+◌, ◌-◌, ◌<◌, ◌≤◌, List, [], ◌∷◌, ◌++◌, Option}
use Rattle.std.proofs.Common.{Some, None, Bool, true, false, ◌||◌, length, drop, get_or, arith, add-one}
use Rattle.std.specs.Prelude.{slice_get}
use Rattle.std.specs.List.{list_any}
use Rattle.std.proofs.lemmas.List.{at_drop_more, length-drop, append-nil}
use Rattle.std.proofs.lemmas.Option.{slice_get_past}
use Rattle.sp_code.specs.declared.code.Formal.{Formal}
use Rattle.sp_verify_rules.specs.Areas.{on_option}
use Rattle.sp_verify_rules.specs.Shapes.{Shape}
use Rattle.sp_verify_effects.specs.Calls.{actual_at, actual_of, actuals, list_of_option}

-- ---- going over operands

given_none : {A : Type 0} (o : Option A) → on_option {B = Option ℕ} None o (λ x. None) ≡ None
given_none None = refl
given_none (Some x) = refl

short : (ss : List Shape) (i : ℕ) → drop i ss ≡ [] → length ss ≤ i
short ss i e = let f = length-drop i ss in let g = ap (λ (z : List Shape). length z) e in omega (arith, f, g)

no_actual : (fs : List Formal) (ss : List Shape) (n : ℕ) → length ss ≤ n → actual_at fs ss n ≡ None
no_actual fs ss n h =
    ap (λ (o : Option Shape). on_option None (slice_get fs (length fs - 1 - n)) (λ f. on_option None o (actual_of f)))
    (slice_get_past ss n h)
    ∙ given_none (slice_get fs (length fs - 1 - n))

no_more : (fs : List Formal) (ss : List Shape) (i d : ℕ) → length ss ≤ i → actuals fs ss (i + d) ≡ actuals fs ss i
no_more fs ss i zero h = let e : i + zero ≡ i = omega arith in ap (actuals fs ss) e
no_more fs ss i (suc d) h =
    let e : i + suc d ≡ suc (i + d) = omega arith in
    ap (actuals fs ss) e ∙ ap (λ (o : Option ℕ). actuals fs ss (i + d)
    ++ list_of_option o) (no_actual fs ss (i + d) (omega (arith, h))) ∙ append-nil (actuals fs ss (i + d))
    ∙ no_more fs ss i d h

pub all_listed : (fs : List Formal) (ss : List Shape) (i n : ℕ) → i ≤ n → drop i ss ≡ []
    → actuals fs ss i ≡ actuals fs ss n
all_listed fs ss i n l e =
    let f : i + (n - i) ≡ n = omega (arith, l) in
    sym (sym (ap (actuals fs ss) f) ∙ no_more fs ss i (n - i) (short ss i e))

next_shape : (ss rest : List Shape) (s : Shape) (i : ℕ) → drop i ss ≡ s ∷ rest → (slice_get ss i ≡ Some s)
    × (drop (i + 1) ss ≡ rest)
next_shape [] rest s zero e = absurd (cc e)
next_shape [] rest s (suc i) e = absurd (cc e)
next_shape (t ∷ ts) rest s zero e = (ap (λ (z : List Shape). slice_get z 0) e, ap (λ (z : List Shape). drop 1 z) e)
next_shape (t ∷ ts) rest s (suc i) e =
    let r = next_shape ts rest s i e in
    let f : suc i + 1 ≡ suc (i + 1) = omega arith in
    (r.0, ap (λ n. drop n (t ∷ ts)) f ∙ r.1)

pub one_listed : (fs : List Formal) (ss rest : List Shape) (i : ℕ) (f : Formal) (s : Shape)
    → slice_get fs (length fs - 1 - i) ≡ Some f → drop i ss ≡ s ∷ rest
    → (actuals fs ss i ++ list_of_option (actual_of f s) ≡ actuals fs ss (i + 1)) × (drop (i + 1) ss ≡ rest)
one_listed fs ss rest i f s at e =
    let r = next_shape ss rest s i e in
    let g = ap (λ (o : Option Formal). on_option None o (λ h. on_option None (slice_get ss i) (actual_of h))) at
    ∙ ap (λ (o : Option Shape). on_option None o (actual_of f)) r.0 in
    (sym (ap (actuals fs ss) (add-one i) ∙ ap (λ (o : Option ℕ). actuals fs ss i ++ list_of_option o) g), r.1)

-- ---- going over variables

pub any_on : (P : ℕ → Bool) (xs : List ℕ) (i : ℕ) → i < length xs → P (get_or xs i 0) ≡ false
    → list_any P (drop i xs) ≡ list_any P xs → list_any P (drop (i + 1) xs) ≡ list_any P xs
any_on P xs i h f g = sym (at_drop_more (list_any P) xs i 0 h ∙ ap (λ b. b || list_any P (drop (i + 1) xs)) f) ∙ g

pub any_here : (P : ℕ → Bool) (xs : List ℕ) (i : ℕ) → i < length xs → P (get_or xs i 0) ≡ true
    → list_any P (drop i xs) ≡ list_any P xs → true ≡ list_any P xs
any_here P xs i h f g = sym (at_drop_more (list_any P) xs i 0 h ∙ ap (λ b. b || list_any P (drop (i + 1) xs)) f) ∙ g
