-- All of this belongs to what the program promises (docs/promise.txt).
-- The canonical layout of items: what stands between an item and the one before it, by the items before it. The
-- contracts of the writing follow it, item by item; it knows no tree, so that comments keep their places.
use Rattle.std.specs.Prelude.{ℕ, zero, suc, ◌+◌, ◌-◌, nat_le, Bool, true, false, ◌||◌, ◌&&◌, ◌==◌, cond, List, [], ◌∷◌}
use Rattle.std.specs.Prelude.{◌++◌, Option, Some, None}
use Rattle.sp_tree.specs.declared.token.Kind.{Kind}
use Rattle.sp_tree.specs.declared.token.Kind.TheVariants as kind
use Rattle.sp_format.specs.declared.context.Context.{Context}
use Rattle.sp_format.specs.Items.{Item}

-- ---- kinds of items

-- begin, case, parallel, record and repeat open a part
abbrev pub begins : Option Kind → Bool
begins (Some (kind.Word n)) = n == 3 || (n == 4 || (n == 19 || (n == 22 || n == 23)))
begins k = false

-- end and until close it
abbrev pub ends : Option Kind → Bool
ends (Some (kind.Word n)) = n == 10 || n == 27
ends k = false

-- these two and the bar stand one step further left
abbrev pub stands_out : Option Kind → Bool
stands_out (Some (kind.Word n)) = n == 10 || n == 27
stands_out (Some (kind.Sign n)) = n == 19
stands_out k = false

-- a new line starts before these, and before a comment
abbrev pub starts : Option Kind → Bool
starts None = true
starts k = stands_out k

-- (
abbrev pub opens : Option Kind → Bool
opens (Some (kind.Sign n)) = n == 9
opens k = false

-- )
abbrev pub closes : Option Kind → Bool
closes (Some (kind.Sign n)) = n == 10
closes k = false

abbrev pub is_array : Option Kind → Bool
is_array (Some (kind.Word n)) = n == 1
is_array k = false

abbrev pub is_case : Option Kind → Bool
is_case (Some (kind.Word n)) = n == 4
is_case k = false

-- , ; : ) ] . .. have no space before them
abbrev pub hangs : Option Kind → Bool
hangs (Some (kind.Sign n)) = n == 15 || (n == 16 || (n == 17 || (n == 10 || (n == 12 || (n == 14 || n == 18)))))
hangs k = false

-- ( [ . .. have no space after them
abbrev pub holds : Option Kind → Bool
holds (Some (kind.Sign n)) = n == 9 || (n == 11 || (n == 14 || n == 18))
holds k = false

-- ( and [ have no space between a name and them
abbrev pub is_name : Option Kind → Bool
is_name (Some kind.Name) = true
is_name k = false

abbrev pub applies : Option Kind → Bool
applies (Some (kind.Sign n)) = n == 9 || n == 11
applies k = false

-- ---- the items before an item, the last one first

-- how many of them are of such a kind
abbrev pub count : (Option Kind → Bool) → List Item → ℕ
count p [] = 0
count p (i ∷ before) = cond (p i.kind) (count p before + 1) (count p before)

abbrev pub is_first : List Item → Bool
is_first [] = true
is_first (i ∷ before) = false

abbrev pub previous_kind : List Item → Option Kind
previous_kind [] = None
previous_kind (i ∷ before) = i.kind

-- whether the last word among array and case is case
abbrev pub chooses : List Item → Bool
chooses [] = false
chooses (i ∷ before) = cond (is_case i.kind) true (cond (is_array i.kind) false (chooses before))

-- what the layout of an item takes from the items before it
abbrev pub context_of : List Item → Context
context_of before = record {
  first = is_first before;
  previous = previous_kind before;
  begun = count begins before;
  ended = count ends before;
  opened = count opens before;
  closed = count closes before;
  chooses = chooses before;
}

-- ---- between two items

-- inside how many parts an item stands
abbrev pub depth : Context → Option Kind → ℕ
depth c k = (c.begun - c.ended) - cond (stands_out k) 1 0

-- outside of all brackets
abbrev pub is_outside_brackets : Context → Bool
is_outside_brackets c = nat_le c.opened c.closed

-- A new line starts behind begin, parallel, record, repeat, a comment, a semicolon outside parentheses, and the of of a
-- case.
abbrev pub breaks_behind : Option Kind → Context → Bool
breaks_behind None c = true
breaks_behind (Some (kind.Word n)) c = n == 3 || (n == 19 || (n == 22 || (n == 23 || (n == 17 && c.chooses))))
breaks_behind (Some (kind.Sign n)) c = n == 16 && is_outside_brackets c
breaks_behind k c = false

-- a new line starts before this item
abbrev pub breaks : Context → Option Kind → Bool
breaks c k = starts k || breaks_behind c.previous c

-- On one line there is a space between two items.
abbrev pub touches : Option Kind → Option Kind → Bool
touches p k = hangs k || (holds p || (is_name p && applies k))

-- two spaces for each step
abbrev pub indentation : ℕ → List ℕ
indentation zero = []
indentation (suc n) = 32 ∷ 32 ∷ indentation n

-- a line feed and an indentation, a space, or nothing
abbrev pub gap : Context → Option Kind → List ℕ
gap c k = cond c.first [] (cond (breaks c k) (10 ∷ indentation (depth c k)) (cond (touches c.previous k) [] (32 ∷ [])))

-- ---- the layout

-- the items laid out behind those before them
abbrev pub items_layout : List Item → List Item → List ℕ
items_layout before [] = []
items_layout before (i ∷ is) = (gap (context_of before) i.kind ++ i.bytes) ++ items_layout (i ∷ before) is

-- the canonical text of items, which ends with one line feed
abbrev pub canonical_text : List Item → List ℕ
canonical_text is = items_layout [] is ++ 10 ∷ []
