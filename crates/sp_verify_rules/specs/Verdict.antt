-- All of this belongs to what the program promises (docs/promise.txt).
-- What a verifier answers: code is verified where no rule is broken at any instruction; else it is rejected for the
-- first broken rule, at the least instruction at which that one is broken.
use Rattle.std.specs.Prelude.{◌≡◌, ◌⊎◌, ℕ, ◌<◌, List, Option, Some, Bool, true, false, slice_get}
use Rattle.sp_code.specs.declared.instr.Instr.{Instr}
use Rattle.sp_code.specs.declared.instr.Instr.TheVariants as i
use Rattle.sp_code.specs.declared.code.Layout.{Layout}
use Rattle.sp_code.specs.declared.code.ChildTable.{ChildTable}
use Rattle.sp_code.specs.declared.code.Parts.{Parts}
use Rattle.sp_code.specs.Memory.{OfBlock}
use Rattle.sp_verify_rules.specs.Areas.{Area, Child, instr_at, child_at, block_homes}
use Rattle.sp_verify_rules.specs.Shapes.{Shape}
use Rattle.sp_verify_rules.specs.Reach.{IsArea, Reaches}
use Rattle.sp_verify_rules.specs.NameRules.{BreaksV1, IsLayout}
use Rattle.sp_verify_rules.specs.Rules.{BreaksV2, BreaksV3, BreaksV4, BreaksV5, BreaksV9}
use Rattle.sp_verify_rules.specs.Effects.{Does, IsCalled}
use Rattle.sp_verify_rules.specs.Forks as fork

-- the rules, the first one first
pub data Rule : Type 0 where
  V1 V2 V3 V4 V5 V6 V7 V8 V9 : Rule

abbrev pub number : Rule → ℕ
number V1 = 1
number V2 = 2
number V3 = 3
number V4 = 4
number V5 = 5
number V6 = 6
number V7 = 7
number V8 = 8
number V9 = 9

-- an instruction at which a process stops, other than by a fault
abbrev pub is_stop : Option Instr → Bool
is_stop (Some i.Open) = true
is_stop (Some (i.Send k)) = true
is_stop (Some (i.Receive k)) = true
is_stop (Some (i.Fork t)) = true
is_stop (Some (i.Forall t)) = true
is_stop (Some i.End) = true
is_stop o = false

module _ (c : Parts) where
  -- code of an area stops
  abbrev pub HasStop : Area → Type 0
  HasStop a = (p : ℕ) × (ss : List Shape) × Reaches c a p ss × (is_stop (instr_at c p) ≡ true)

  -- a block is another one, or lies inside it
  abbrev pub Inside : ℕ → ℕ → Type 0
  Inside d b = (up : ℕ) × (slice_get (block_homes c d) up ≡ Some (OfBlock b))

  -- V6: a child of a fork, at its entry
  abbrev pub BreaksV6 : ℕ → Type 0
  BreaksV6 p = (a : Area) × (q k : ℕ) × (t : ChildTable) × IsArea c (Child a q k) × (child_at c q k ≡ Some t)
      × (t.entry ≡ p) × fork.BreaksV6 c (Does c) HasStop a q k t

  -- V7: a call, or a block that is called inside itself, at its entry
  abbrev pub BreaksV7 : ℕ → Type 0
  BreaksV7 p =
      ((a : Area) × (b up : ℕ) × (ss : List Shape) × (l : Layout) × IsArea c a × IsCalled c a p b up ss l
      × fork.BreaksV7 c (Does c) HasStop l b ss)
      ⊎ ((l : Layout) × IsLayout c l × (l.entry ≡ p) × fork.BreaksV7Inside c (Does c) HasStop Inside l l.block)

  -- V8: a block that answers, at its entry
  abbrev pub BreaksV8 : ℕ → Type 0
  BreaksV8 p = (l : Layout) × IsLayout c l × (l.entry ≡ p) × fork.BreaksV8 c (Does c) HasStop l l.block

  -- a rule is broken at an instruction
  abbrev pub BreaksRuleAt : Rule → ℕ → Type 0
  BreaksRuleAt V1 p = BreaksV1 c p
  BreaksRuleAt V2 p = BreaksV2 c p
  BreaksRuleAt V3 p = BreaksV3 c p
  BreaksRuleAt V4 p = BreaksV4 c p
  BreaksRuleAt V5 p = BreaksV5 c p
  BreaksRuleAt V6 p = BreaksV6 p
  BreaksRuleAt V7 p = BreaksV7 p
  BreaksRuleAt V8 p = BreaksV8 p
  BreaksRuleAt V9 p = BreaksV9 c p

  -- no rule is broken
  abbrev pub IsVerified : Type 0
  IsVerified = (v : Rule) (p : ℕ) → BreaksRuleAt v p → ⊥

  -- rejected for rule v at p
  pub record IsRejected (v : Rule) (p : ℕ) : Type 0 where
    pub broken : BreaksRuleAt v p
    pub first : (w : Rule) (q : ℕ) → number w < number v → BreaksRuleAt w q → ⊥
    pub least : (q : ℕ) → q < p → BreaksRuleAt v q → ⊥
