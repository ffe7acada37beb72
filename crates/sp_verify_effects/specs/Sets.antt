-- None of this belongs to what the program promises: it is for contracts between crates.
-- Ordered sets of variables, by their keys.
use Rattle.std.specs.Prelude.{ℕ, List, [], ◌∷◌, Option, Some, None, Bool, true, false, ◌&&◌, ◌||◌, not}
use Rattle.std.specs.List.{list_any}
use Rattle.std.specs.Ordering.{nat_cmp}
use Rattle.std.specs.BTreeMap.{is_at}
use Rattle.std.specs.BTreeSet.{insert_key}

-- a variable is among keys
abbrev pub has : List ℕ → ℕ → Bool
has ks x = list_any (is_at (nat_cmp x)) ks

-- keys with one more
abbrev pub with_one : List ℕ → ℕ → List ℕ
with_one ks x = insert_key nat_cmp ks x

-- with those of a list
abbrev pub with_all : List ℕ → List ℕ → List ℕ
with_all ks [] = ks
with_all ks (x ∷ xs) = with_all (with_one ks x) xs

-- with one, if there is one
abbrev pub with_index : List ℕ → Option ℕ → List ℕ
with_index ks None = ks
with_index ks (Some x) = with_one ks x

-- those of a list are no keys yet, and differ
abbrev pub all_new : List ℕ → List ℕ → Bool
all_new ks [] = true
all_new ks (x ∷ xs) = not (has ks x) && all_new (with_one ks x) xs

-- one of a list is a key
abbrev pub meets : List ℕ → List ℕ → Bool
meets ks [] = false
meets ks (x ∷ xs) = has ks x || meets ks xs

-- one of a list is no key
abbrev pub goes_beyond : List ℕ → List ℕ → Bool
goes_beyond ks [] = false
goes_beyond ks (x ∷ xs) = not (has ks x) || goes_beyond ks xs
