-- Some of this belongs to what the program promises (docs/promise.txt).
-- The canonical text of a text, or why it has none. The contract of `format` promises it, and the top call's command
-- `format` cites it.
use Rattle.std.specs.Prelude.{◌≡◌, ◌⊎◌, ℕ, ◌≤◌, ◌<◌, List, length, Result, Ok, Err}
use Rattle.std.specs.declared.vec.Vec.{Vec}
use Rattle.std.specs.declared.alloc.Global.{Global}
use Rattle.sp_base.specs.declared.halt.Halt.{Halt}
use Rattle.sp_base.specs.declared.halt.Halt.TheVariants as halt
use Rattle.sp_base.specs.declared.halt.Refusal.{Refusal}
use Rattle.sp_base.specs.declared.rule.Rule.TheVariants as rule
use Rattle.sp_tree.specs.PlainSyntax.{Program}
use Rattle.sp_tree.specs.Places.{start}
use Rattle.sp_tree.specs.Breaches.{IsTree, IsFirstBroken}
use Rattle.sp_format.specs.Items.{Item, HasItems}
use Rattle.sp_format.specs.Layout.{canonical_text}

-- This is the canonical text of the text.
pub record IsCanonical (text out : List ℕ) : Type 0 where
  pub items : List Item
  pub has : HasItems text items
  pub text_is : out ≡ canonical_text items
  pub short : length out ≤ 1048576

-- The canonical text would be longer than a text may be.
pub record IsLong (text : List ℕ) (r : Refusal) : Type 0 where
  pub items : List Item
  pub has : HasItems text items
  pub long : 1048576 < length (canonical_text items)
  pub refusal_is : r ≡ record { rule = rule.L1; at = start }

-- the answer of the writing; want of memory is free
abbrev pub Lays : List ℕ → Result (Vec ℕ Global) Halt → Type 0
Lays text (Ok out) = IsCanonical text out.items
Lays text (Err (halt.Refused r)) = IsLong text r
Lays text (Err halt.Memory) = Unit {0}

-- the text breaks no rule of its characters and its grammar
abbrev pub HasTree : List ℕ → Type 0
HasTree text = (p : Program) × IsTree text p

-- why a text has no canonical text: the first rule of these phases that it breaks, or L1
abbrev pub HasNoLayout : List ℕ → Refusal → Type 0
HasNoLayout text r = IsFirstBroken text r ⊎ (HasTree text × IsLong text r)

-- this is the canonical text of a text that breaks no rule of these phases
abbrev pub HasLayout : List ℕ → List ℕ → Type 0
HasLayout text out = HasTree text × IsCanonical text out

-- The canonical text of a text that breaks no rule of these phases; or the first rule that it breaks; or L1.
abbrev pub Formats : List ℕ → Result (Vec ℕ Global) Halt → Type 0
Formats text (Ok out) = HasLayout text out.items
Formats text (Err (halt.Refused r)) = HasNoLayout text r
Formats text (Err halt.Memory) = Unit {0}
