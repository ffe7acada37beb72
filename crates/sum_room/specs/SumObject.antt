-- None of this belongs to what the program promises: it is for contracts between crates.
-- What a sum does when it is asked: the smallest object that a room can keep, with all laws that a room asks for. The
-- example of this crate is proved by it.
use Rattle.std.specs.Prelude.{◌≡◌, ℕ, ◌+◌, ◌<◌, List, [], ◌∷◌, length, Option, Some, None, Bool, true, false}
use Rattle.std.proofs.Common.{arith}
use Rattle.sum_room.specs.declared.sum.Sum.{Sum as Total}
use Rattle.sum_room.specs.declared.sum.Ask.{Ask}
use Rattle.sum_room.specs.declared.sum.Ask.TheVariants.{Add, Look, Leave}
use Rattle.sum_room.specs.declared.sum.Got.{Got}
use Rattle.sum_room.specs.declared.sum.Got.TheVariants.{Sum, Refused}
use Rattle.sum_room.specs.declared.sum.Note.{Note}
use Rattle.sp_room.specs.History.{LeadsTo}

-- one is added, and the worker's note has the sum
abbrev pub AddsOne : Total → ℕ → Total → Got → Option Note → Type 0
AddsOne x w y g n = (y.value ≡ x.value + 1) × (g ≡ Sum y.value) × (n ≡ Some (record { worker = w; sum = y.value }))

-- the state, the worker, the ask, the state after, the answer and the note
abbrev pub SumSteps : Total → ℕ → Ask → Total → Got → Option Note → Type 0
SumSteps x w Add y g n = AddsOne x w y g n
SumSteps x w Leave y g n = AddsOne x w y g n
SumSteps x w Look y g n = (y ≡ x) × (g ≡ Sum x.value) × (n ≡ None)

abbrev pub is_leave : Ask → Bool
is_leave Leave = true
is_leave Add = false
is_leave Look = false

-- the ask comes back
abbrev pub Returns : Ask → Got → Type 0
Returns a g = g ≡ Refused a

pub leave_notes : (x : Total) (w : ℕ) (a : Ask) (y : Total) (g : Got) → is_leave a ≡ true → SumSteps x w a y g None → ⊥
leave_notes x w Leave y g is m = cc (m.2)
leave_notes x w Add y g is m = cc (m.2)
leave_notes x w Look y g is m = cc is

pub none_same : (x : Total) (w : ℕ) (a : Ask) (y : Total) (g : Got) → SumSteps x w a y g None → y ≡ x
none_same x w Add y g m = absurd (cc (m.2))
none_same x w Leave y g m = absurd (cc (m.2))
none_same x w Look y g m = m.0

one_more : (x : Total) (w : ℕ) (a : Ask) (y : Total) (g : Got) (n : Note) → SumSteps x w a y g (Some n)
    → y.value ≡ x.value + 1
one_more x w Add y g n m = m.0
one_more x w Leave y g n m = m.0
one_more x w Look y g n m = absurd (cc (m.2))

pub note_changes : (x : Total) (w : ℕ) (a : Ask) (y : Total) (g : Got) (n : Note) → SumSteps x w a y g (Some n)
    → y ≡ x → ⊥
note_changes x w a y g n m same = let more : y.value ≡ x.value + 1 = one_more x w a y g n m in
    let e : y.value ≡ x.value = (λ i. (same i).value) in omega (arith, more, e)

some_worker : (n k : Note) → Some n ≡ Some k → n.worker ≡ k.worker
some_worker n k e = let same : n ≡ k = cc e in λ i. (same i).worker

pub note_names : (x : Total) (w : ℕ) (a : Ask) (y : Total) (g : Got) (n : Note) → SumSteps x w a y g (Some n)
    → n.worker ≡ w
note_names x w Add y g n m = some_worker n _ m.2
note_names x w Leave y g n m = some_worker n _ m.2
note_names x w Look y g n m = absurd (cc (m.2))

pub ask_returns : (a b : Ask) (g : Got) → is_leave a ≡ false → is_leave b ≡ false → Returns a g → Returns b g → a ≡ b
ask_returns a b g one two p q = cc (p, q)

pub sum_is : (x : Total) (log : List Note) (y : Total) → LeadsTo SumSteps x log y → y.value ≡ x.value + length log
sum_is x [] y r = let e : x.value ≡ y.value = λ i. (r i).value in omega (arith, e)
sum_is x (n ∷ ns) y (mid, worker, ask, got, step, rest) =
    let e = sum_is mid ns y rest in let f = one_more x worker ask mid got n step in omega (arith, e, f)

pub never_full : (x : Total) (log : List Note) (y : Total) → x.value ≡ 0 → LeadsTo SumSteps x log y
    → length log < 18446744073709551615 → y.value + 1 < 18446744073709551616
never_full x log y zero r short = omega (arith, sum_is x log y r, zero, short)
