-- Some of this belongs to what the program promises (docs/promise.txt).
-- The first of the broken rules so far, and what a phase answers. The walks over names, types and interference
-- promise their answers in these words, each with memory's refusal left free. It is the order of broken rules that
-- code carries on.
use Rattle.std.specs.Option.{option_map_or}
use Rattle.std.specs.Prelude.{◌≡◌, List, [], ◌∷◌, Bool, true, false, if◌then◌else◌, Option, Some, None, Result, Ok, Err}
use Rattle.sp_base.specs.declared.place.Place.{Place}
use Rattle.sp_base.specs.declared.rule.Rule.{Rule}
use Rattle.sp_base.specs.declared.halt.Refusal.{Refusal}
use Rattle.sp_base.specs.declared.halt.Halt.{Halt}
use Rattle.sp_base.specs.declared.halt.Halt.TheVariants as halt
use Rattle.sp_tree.specs.declared.breach_order.PassResult.{PassResult}
use Rattle.sp_tree.specs.First.{refusal_before}

-- a broken rule with its place, or none
abbrev pub FirstRefusal : Type 0
FirstRefusal = Option Refusal

-- the rule is broken at the place
abbrev pub refusal_at : Rule → Place → FirstRefusal
refusal_at rule at = Some (record { rule = rule; at = at })

-- the rule is broken at the place if the test says so
abbrev pub refusal_if : Rule → Place → Bool → FirstRefusal
refusal_if rule at true = refusal_at rule at
refusal_if rule at false = None

-- the first of the two
abbrev pub earlier_refusal : FirstRefusal → FirstRefusal → FirstRefusal
earlier_refusal None b = b
earlier_refusal (Some x) None = Some x
earlier_refusal (Some x) (Some y) = if refusal_before y x then Some y else Some x

-- the first of a list and what is given
abbrev pub first_of_refusals : List Refusal → FirstRefusal → FirstRefusal
first_of_refusals [] given = given
first_of_refusals (r ∷ rs) given = first_of_refusals rs (earlier_refusal given (Some r))

-- a list of none or one
abbrev pub refusal_list : FirstRefusal → List Refusal
refusal_list None = []
refusal_list (Some r) = r ∷ []

-- the answer of a phase: the first broken rule, or what the text stands for
abbrev pub phase_result : {A : Type 0} → FirstRefusal → A → Result A Refusal
phase_result r x = option_map_or Err r (Ok x)

-- A call answers as the phase does, or memory was refused.
abbrev pub Answers : {A : Type 0} → Result A Halt → Result A Refusal → Type 0
Answers (Ok x) d = d ≡ Ok x
Answers (Err (halt.Refused r)) d = d ≡ Err r
Answers (Err halt.Memory) d = Unit {0}

-- The same of a tree in memory, which stands for a plain one.
abbrev pub AnswersAs : {A B : Type 0} → (A → B) → Result A Halt → Result B Refusal → Type 0
AnswersAs view (Ok x) d = d ≡ Ok (view x)
AnswersAs view (Err (halt.Refused r)) d = d ≡ Err r
AnswersAs view (Err halt.Memory) d = Unit {0}

-- a part in memory as the plain tree that it stands for, with the first broken rule
abbrev pub pass_result : {A B : Type 0} → (A → B) → PassResult A → B × FirstRefusal
pass_result view w = (view w.tree, w.first)

-- This tree and this first broken rule up to its end, or memory was refused.
abbrev pub PassesTo : {A B : Type 0} → (A → B) → Result (PassResult A) Halt → B → FirstRefusal → Type 0
PassesTo view result tree first = AnswersAs (pass_result view) result (Ok (tree, first))
