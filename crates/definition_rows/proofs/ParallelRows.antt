-- `parallel x := 1 | x := 2`: a program that is not disjoint, and whose schedules do not end alike.
use Rattle.std.proofs.Common.{◌≡◌, inl, inr, ℕ, List, [], ◌∷◌, ◌++◌, length, Option, Some, None, refl, sym, ap, ◌∙◌}
use Rattle.std.proofs.Common.{arith}
use Rattle.std.specs.Prelude.{pos}
use Rattle.std.proofs.lemmas.List.{length-append}
use Rattle.sp_meaning.specs.Model.{Name}
use Rattle.sp_meaning.specs.LocalWork.{Loc, Cell, Tree}
use Rattle.sp_meaning.specs.Values.{Ordinal}
use Rattle.sp_meaning.specs.Runs.{StateOf, start, next_state, system_of, Lawful, IsDisjointRun}
use Rattle.sp_meaning.specs.Schedules.{ScheduleLeads, EndsAlike}
use Rattle.sp_meaning.specs.Disjoint.{AreParallel}
use Rattle.sp_race.specs.Runs.{AllEndAlike}
use Rattle.definition_rows.specs.Programs.{both_set}

abbrev State : Type 0
State = StateOf both_set

-- the state after a step, and after a schedule
abbrev or_here : State → Option State → State
or_here s None = s
or_here s (Some t) = t

abbrev after : List Name → State → State
after [] s = s
after (q ∷ qs) s = after qs (or_here s (next_state both_set s q))

abbrev root : Name
root = []

abbrev child : ℕ → Name
child n = (0, n) ∷ []

abbrev x : Loc
x = Cell root 0 2

-- ---- each of the children writes x

abbrev forked : State
forked = or_here (start both_set) (next_state both_set (start both_set) root)

abbrev first_set : State
first_set = or_here forked (next_state both_set forked (child 0))

abbrev second_set : State
second_set = or_here first_set (next_state both_set first_set (child 1))

are_parallel : AreParallel (child 0) (child 1)
are_parallel = record {
  common = [];
  fork = 0;
  first = 0;
  second = 1;
  apart = λ e. omega (arith, e);
  after_one = [];
  after_other = [];
  a_is = refl;
  b_is = refl;
}

leads : Lawful both_set (start both_set) (root ∷ child 0 ∷ child 1 ∷ []) second_set
leads = (forked, refl, refl, (first_set, refl, refl, (second_set, refl, refl, refl)))

pub not_disjoint : IsDisjointRun both_set → ⊥
not_disjoint h = h (root ∷ child 0 ∷ child 1 ∷ []) second_set leads (child 0) (child 1) are_parallel x
    (inr (forked, refl, inl (_, refl, inl (refl, inl refl))))
    (inr (forked, refl, inr (first_set, refl, inl (_, refl, inr (inl (refl, inl refl))))))

-- ---- the end depends on who is last. After the fork and the two assignments each child ends, and then the root

abbrev one : List Name
one = root ∷ child 0 ∷ child 1 ∷ child 0 ∷ child 1 ∷ root ∷ []

abbrev other : List Name
other = root ∷ child 1 ∷ child 0 ∷ child 0 ∷ child 1 ∷ root ∷ []

abbrev end_of : List Name → State
end_of qs = after qs (start both_set)

one_leads : Lawful both_set (start both_set) one (end_of one)
one_leads = (_, refl, refl, (_, refl, refl, (_, refl, refl, (_, refl, refl, (_, refl, refl, (_, refl, refl, refl))))))

other_leads : Lawful both_set (start both_set) other (end_of other)
other_leads = (_, refl, refl, (_, refl, refl, (_, refl, refl, (_, refl, refl, (_, refl, refl, (_, refl, refl, refl))))))

one_sets_2 : (end_of one).store x ≡ Tree (Ordinal (pos 2))
one_sets_2 = refl

other_sets_1 : (end_of other).store x ≡ Tree (Ordinal (pos 1))
other_sets_1 = refl

-- a schedule of six names that ends as a run of six steps does has its state
its_end : (t u : State) (qs : List Name) → length qs ≡ 6
    → EndsAlike (system_of both_set) (start both_set) 6 t qs u → t ≡ u
its_end t u qs six e = by e.rest e.full e.goes_on
  where
    by : (rest : List Name) → length (qs ++ rest) ≡ 6 → ScheduleLeads (system_of both_set) u rest t → t ≡ u
    by [] f h = h
    by (r ∷ rest) f h = let l = length-append qs (r ∷ rest) in absurd (omega (arith, six, f, l))

pub no_common_end : (t : State) → AllEndAlike both_set 6 t → ⊥
no_common_end t h = let a = its_end t (end_of one) one refl (h one (end_of one) one_leads) in
    let b = its_end t (end_of other) other refl (h other (end_of other) other_leads) in
    let e : Tree (Ordinal (pos 2)) ≡ Tree (Ordinal (pos 1)) = ap (λ (s : State). s.store x) (sym a ∙ b) in cc e
