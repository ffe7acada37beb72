-- So many operands that are taken, some at a time.
use Rattle.std.proofs.Common.{◌≡◌, refl, ap, ◌∙◌, subst, ℕ, zero, suc, ◌+◌, ◌-◌, ◌<◌, ◌≤◌, List, [], ◌∷◌, ◌++◌}
use Rattle.std.proofs.Common.{Some, None, arith, length}
use Rattle.std.proofs.lemmas.Option.{none-some, same_Some}
use Rattle.sp_verify_rules.specs.Shapes.{Shape, Shaped, take_all}
use Rattle.sp_verify_shapes.specs.declared.stacks.Jump.{Jump}
use Rattle.sp_verify_shapes.specs.declared.stacks.Stacks.{Stacks}
use Rattle.sp_verify_shapes.specs.declared.plans.Takes.TheVariants as takes
use Rattle.sp_verify_shapes.specs.declared.operands.TakeResult.{TakeResult}
use Rattle.sp_verify_shapes.specs.Stacks.{IsJump, IsListNumber, list_of}
use Rattle.sp_verify_shapes.specs.Plans.{take}
use Rattle.sp_verify_shapes.specs.Remainders.{IsTaken}

-- of so many some are taken, so many are left to be taken, and this is the rest
pub record AreGone (st : Stacks) (n count left rest : ℕ) : Type 0 where
  pub held : IsListNumber st rest
  pub goes : (go : List Shape → Shaped) → take_all count (list_of st n) go ≡ take_all left (list_of st rest) go

pub none_gone : (st : Stacks) (n count : ℕ) → IsListNumber st n → AreGone st n count count n
none_gone st n count h = record { held = h; goes = λ go. refl }

-- those before others are taken first
taken_before : (us ts : List Shape) (m : ℕ) (go : List Shape → Shaped)
    → take_all (length us + m) (us ++ ts) go ≡ take_all m ts go
taken_before [] ts m go = let e : 0 + m ≡ m = omega arith in ap (λ n. take_all n ts go) e
taken_before (u ∷ us) ts m go =
    let e : length (u ∷ us) + m ≡ suc (length us + m) = omega arith in
    ap (λ n. take_all n ((u ∷ us) ++ ts) go) e ∙ taken_before us ts m go

pub some_gone : (st : Stacks) (n count left rest : ℕ) (j : Jump) → AreGone st n count left rest → j.far ≤ left
    → IsJump st (list_of st rest) j → AreGone st n count (left - j.far) j.to
some_gone st n count left rest j h l i = record { held = i.held; goes = goes }
  where
    split : left ≡ length i.lands.before + (left - j.far)
    split = let many = i.lands.many in omega (arith, l, many)

    goes : (go : List Shape → Shaped) → take_all count (list_of st n) go
        ≡ take_all (left - j.far) (list_of st j.to) go
    goes go = h.goes go ∙ ap (λ m. take_all m (list_of st rest) go) split
        ∙ ap (λ ss. take_all (length i.lands.before + (left - j.far)) ss go) i.lands.whole
        ∙ taken_before i.lands.before (list_of st j.to) (left - j.far) go

pub gone_short : (st : Stacks) (n count left rest : ℕ) → AreGone st n count left rest → 0 < left
    → list_of st rest ≡ []
    → IsTaken st (take (takes.Many count) (list_of st n)) None
gone_short st n count zero rest h l e = absurd (omega (arith, l))
gone_short st n count (suc m) rest h l e = record {
  goes = λ g. h.goes (g 0 0) ∙ ap (λ ss. take_all (suc m) ss (g 0 0)) e;
  held = λ t y. absurd (none-some t y);
}

pub gone_all : (st : Stacks) (n count left rest : ℕ) → AreGone st n count left rest → left ≡ 0
    → IsTaken st (take (takes.Many count) (list_of st n)) (Some (record { variable = 0; left = 0; rest = rest }))
gone_all st n count left rest h z = record {
  goes = λ g. h.goes (g 0 0) ∙ ap (λ i. take_all i (list_of st rest) (g 0 0)) z;
  held = λ t y. subst (IsListNumber st) (ap (λ (w : TakeResult). w.rest) (same_Some _ t y)) h.held;
}
