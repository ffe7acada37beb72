-- Worked journals: which are ordered, by computation.
use Rattle.std.proofs.Common.{◌≡◌, ℕ, false, List, [], ◌∷◌, refl, sym, ◌∙◌}
use Rattle.std.proofs.lemmas.Bool.{true≢false}
use Rattle.sp_journal.specs.declared.entry.Way.TheVariants as way
use Rattle.sp_journal.specs.Names.{Name, Channel, Happening, Opened, Forked, Offered, Ended, Occurrence}
use Rattle.sp_journal.specs.Past.{AreOrdered}
use Rattle.sp_race.specs.OrderTest.{order_test}
use Rattle.sp_race.proofs.OrderTests.{test_ordered, ordered_test}

abbrev by : Name → Happening → Occurrence
by p h = record { who = p; what = h }

abbrev root : Name
root = []

-- child i of the root's fork k
abbrev child : ℕ → ℕ → Name
child k i = (k, i) ∷ []

abbrev nth : ℕ → Channel
nth n = record { owner = []; nth = n }

abbrev sends : Channel → Happening
sends c = Offered way.Send c

abbrev receives : Channel → Happening
receives c = Offered way.Receive c

not_ordered : (es : List Occurrence) → order_test es ≡ false → AreOrdered es → ⊥
not_ordered es h o = let t = ordered_test es o in true≢false (sym t ∙ h)

-- two senders and one that receives twice: the second sender does not know of the first rendezvous
abbrev two_senders : List Occurrence
two_senders =
    by root Opened ∷ by root (Forked 3) ∷ by (child 0 0) (receives (nth 0)) ∷ by (child 0 1) (sends (nth 0))
    ∷ by (child 0 2) (sends (nth 0))
    ∷ by (child 0 0) (receives (nth 0)) ∷ by (child 0 1) Ended ∷ by (child 0 2) Ended ∷ by (child 0 0) Ended
    ∷ by root Ended ∷ []

pub two_senders_race : AreOrdered two_senders → ⊥
two_senders_race = not_ordered two_senders refl

-- one sender and two receivers: the rendezvous are in order, and the second receiver does not know of the first
abbrev two_receivers : List Occurrence
two_receivers =
    by root Opened ∷ by root (Forked 3) ∷ by (child 0 0) (sends (nth 0)) ∷ by (child 0 1) (receives (nth 0))
    ∷ by (child 0 2) (receives (nth 0))
    ∷ by (child 0 0) (sends (nth 0)) ∷ by (child 0 1) Ended ∷ by (child 0 2) Ended ∷ by (child 0 0) Ended
    ∷ by root Ended ∷ []

pub two_receivers_race : AreOrdered two_receivers → ⊥
two_receivers_race = not_ordered two_receivers refl

-- one channel used twice, one after the other: the join orders the second use after the first
abbrev used_twice : List Occurrence
used_twice =
    by root Opened ∷ by root (Forked 2) ∷ by (child 0 0) (sends (nth 0)) ∷ by (child 0 1) (receives (nth 0))
    ∷ by (child 0 0) Ended ∷ by (child 0 1) Ended
    ∷ by root (Forked 2) ∷ by (child 1 0) (sends (nth 0)) ∷ by (child 1 1) (receives (nth 0)) ∷ by (child 1 0) Ended
    ∷ by (child 1 1) Ended ∷ by root Ended ∷ []

pub used_twice_ordered : AreOrdered used_twice
used_twice_ordered = test_ordered used_twice refl

-- the second use inside a process statement of the first: the sender knows of it by its fork
abbrev grandchild : ℕ → Name
grandchild i = (0, i) ∷ (0, 1) ∷ []

abbrev used_inside : List Occurrence
used_inside =
    by root Opened ∷ by root (Forked 2) ∷ by (child 0 0) (sends (nth 0)) ∷ by (child 0 1) (receives (nth 0))
    ∷ by (child 0 0) Ended ∷ by (child 0 1) (Forked 2)
    ∷ by (grandchild 0) (sends (nth 0)) ∷ by (grandchild 1) (receives (nth 0)) ∷ by (grandchild 0) Ended
    ∷ by (grandchild 1) Ended ∷ by (child 0 1) Ended ∷ by root Ended ∷ []

pub used_inside_ordered : AreOrdered used_inside
used_inside_ordered = test_ordered used_inside refl

-- a pipeline of one node
abbrev pipeline : List Occurrence
pipeline =
    by root Opened ∷ by root Opened ∷ by root (Forked 3) ∷ by (child 0 0) (sends (nth 0)) ∷ by (child 0 1) (Forked 1)
    ∷ by (child 0 2) (receives (nth 1))
    ∷ by (grandchild 0) (receives (nth 0)) ∷ by (child 0 0) Ended ∷ by (grandchild 0) (sends (nth 1))
    ∷ by (child 0 2) Ended ∷ by (grandchild 0) Ended
    ∷ by (child 0 1) Ended ∷ by root Ended ∷ []

pub pipeline_ordered : AreOrdered pipeline
pipeline_ordered = test_ordered pipeline refl

-- a tree of processes with two leaves, each of which sends to its parent
abbrev leaf : ℕ → Name
leaf i = (0, i) ∷ (0, 0) ∷ []

abbrev up : ℕ → Channel
up n = record { owner = child 0 0; nth = n }

abbrev tree : List Occurrence
tree =
    by root Opened ∷ by root (Forked 2) ∷ by (child 0 0) Opened ∷ by (child 0 1) (receives (nth 0))
    ∷ by (child 0 0) Opened ∷ by (child 0 0) (Forked 3)
    ∷ by (leaf 0) (sends (up 0)) ∷ by (leaf 1) (sends (up 1)) ∷ by (leaf 2) (receives (up 0)) ∷ by (leaf 0) Ended
    ∷ by (leaf 2) (receives (up 1))
    ∷ by (leaf 1) Ended ∷ by (leaf 2) (sends (nth 0)) ∷ by (child 0 1) Ended ∷ by (leaf 2) Ended ∷ by (child 0 0) Ended
    ∷ by root Ended ∷ []

pub tree_ordered : AreOrdered tree
tree_ordered = test_ordered tree refl
