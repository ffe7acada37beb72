-- The names in a program's heading are checked with two marks as with the list of those before.
use Rattle.std.proofs.Common.{◌≡◌, refl, ap, sym, ◌∙◌, subst, T, ℕ, List, [], ◌∷◌, Bool, true, false, ◌||◌}
use Rattle.std.proofs.Common.{if◌then◌else◌, codes}
use Rattle.std.specs.Str.{bytes_eq}
use Rattle.std.proofs.lemmas.Slice.Eq.{bytes_eq-Decides}
use Rattle.sp_base.specs.declared.rule.Rule.TheVariants as rule
use Rattle.sp_base.proofs.Facts.{same_if_bytes_eq}
use Rattle.sp_tree.specs.declared.syntax.Name.{Name}
use Rattle.sp_tree.specs.PhaseResults.{FirstRefusal, earlier_refusal, refusal_at, refusal_if}
use Rattle.sp_tree.specs.NameRules.{is_listed_name}
use Rattle.sp_scope.specs.Files.{files_flagged}
use Rattle.sp_scope.specs.Firsts.{files_first}

abbrev input : List ℕ
input = codes "input"

abbrev output : List ℕ
output = codes "output"

differ : (x y : List ℕ) → bytes_eq x y ≡ false → bytes_eq y x ≡ false
differ x y e = by (bytes_eq y x) refl
  where
    by : (b : Bool) → bytes_eq y x ≡ b → bytes_eq y x ≡ false
    by false f = f
    by true f = absurd (subst T (sym ((bytes_eq-Decides x y).1 (sym (same_if_bytes_eq y x f))) ∙ e) tt)

files_agree : (xs : List Name) (before : List (List ℕ)) (i o : Bool) → is_listed_name input before ≡ i
    → is_listed_name output before ≡ o
    → (given : FirstRefusal) → files_flagged i o xs given ≡ files_first before xs given
files_agree [] before i o p q given = refl
files_agree (x ∷ xs) before i o p q given = by (λ a b r s g. files_agree xs (x.text ∷ before) a b r s g)
    (bytes_eq x.text input) refl (bytes_eq x.text output) refl
  where
    by : ((a b : Bool) → is_listed_name input (x.text ∷ before) ≡ a → is_listed_name output (x.text ∷ before) ≡ b
        → (g : FirstRefusal)
        → files_flagged a b xs g ≡ files_first (x.text ∷ before) xs g)
        → (a : Bool) → bytes_eq x.text input ≡ a → (b : Bool) → bytes_eq x.text output ≡ b
        → (if a then files_flagged true o xs (earlier_refusal given (refusal_if rule.N2 x.at i)) else if b then
        files_flagged i true xs (earlier_refusal given (refusal_if rule.N2 x.at o)) else
        files_flagged i o xs (earlier_refusal given (refusal_at rule.N1 x.at)))
        ≡ files_first (x.text ∷ before) xs (earlier_refusal given
        (if a || b then refusal_if rule.N2 x.at (is_listed_name x.text before) else refusal_at rule.N1 x.at))
    by again true e b f =
        ap (λ c. files_flagged true o xs (earlier_refusal given (refusal_if rule.N2 x.at c)))
        (sym p ∙ ap (λ t. is_listed_name t before) (sym (same_if_bytes_eq x.text input e)))
        ∙ again true o (ap (λ t. bytes_eq input t || is_listed_name input before) (same_if_bytes_eq x.text input e))
        (ap (λ t. bytes_eq output t || is_listed_name output before) (same_if_bytes_eq x.text input e) ∙ q)
        (earlier_refusal given (refusal_if rule.N2 x.at (is_listed_name x.text before)))
    by again false e true f =
        ap (λ c. files_flagged i true xs (earlier_refusal given (refusal_if rule.N2 x.at c)))
        (sym q ∙ ap (λ t. is_listed_name t before) (sym (same_if_bytes_eq x.text output f)))
        ∙ again i true (ap (λ t. bytes_eq input t || is_listed_name input before)
        (same_if_bytes_eq x.text output f) ∙ p)
        (ap (λ t. bytes_eq output t || is_listed_name output before) (same_if_bytes_eq x.text output f))
        (earlier_refusal given (refusal_if rule.N2 x.at (is_listed_name x.text before)))
    by again false e false f =
        again i o (ap (λ b. b || is_listed_name input before) (differ x.text input e) ∙ p)
        (ap (λ b. b || is_listed_name output before) (differ x.text output f) ∙ q)
        (earlier_refusal given (refusal_at rule.N1 x.at))

pub files_are : (xs : List Name) (given : FirstRefusal) → files_flagged false false xs given ≡ files_first [] xs given
files_are xs given = files_agree xs [] false false refl refl given
