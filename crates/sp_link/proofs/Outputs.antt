-- The output of the system is that of the meaning (`output_is`). Who may write the output holds it, or has handed it to
-- a child that has not ended; so it is found from the first process downward, and each child has a greater number than
-- its parent.
use Rattle.std.proofs.Common.{◌≡◌, ◌⊎◌, inl, inr, ⊎_elim, ℕ, zero, suc, ◌+◌, ◌<◌, ◌≤◌, List, [], ◌∷◌, Option, Some}
use Rattle.std.proofs.Common.{None, true, false, refl, sym, ap, ◌∙◌, subst, arith}
use Rattle.std.specs.Prelude.{◌≢◌}
use Rattle.std.specs.FinMap as fin
use Rattle.sp_base.proofs.Facts.{same_tail}
use Rattle.sp_cell.specs.Map.{Plain, output_of, output_spot}
use Rattle.sp_meaning.specs.Model.{Name, Condition, Absent, Waits, Joins, Ended}
use Rattle.sp_meaning.specs.Steps.{has_ended, own_part_in, IsAlive as IsLive}
use Rattle.sp_meaning.specs.LocalWork.{Output, Written, bytes_in, Process}
use Rattle.sp_meaning.specs.Runs.{StateOf}
use Rattle.sp_meaning.specs.Runs as run
use Rattle.sp_meaning.specs.Along.{JournalState}
use Rattle.sp_meaning.proofs.Rights.{OwnOrGiven}
use Rattle.sp_code.specs.Machine.{Config, At}
use Rattle.sp_code.specs.Memory.{Memory}
use Rattle.sp_code.specs.PlainStore.{plain}
use Rattle.sp_code.specs.System.{System, OutputIs, store_in, store_of}
use Rattle.sp_code.specs.System as sys
use Rattle.sp_link.proofs.Relation.{RunContext, RightsOfAll, R_of, OutputMatches, Performs_all, Linked, run_is}

module _ (G : RunContext) (lv : RightsOfAll G) (c : JournalState) (s : StateOf G.g) (u : System Plain)
    (l : Linked G lv c s u) where
  abbrev OutputIsSource : Type 0
  OutputIsSource = OutputIs plain (run_is G) u (run.output_of G.g s)

  -- a process that holds it
  holds_it : (i : ℕ) (x : sys.Condition Plain) (d : Config (Memory Plain)) → u.condition i ≡ x
      → store_in {S = Plain} x ≡ Some (store_of d) → (bs : List ℕ) → s.store Output ≡ Written bs
      → output_of (fin.get (store_of {S = Plain} d).map output_spot) ≡ Some bs → OutputIsSource
  holds_it i x d e has bs is out = (i, store_of d, ap store_in e ∙ has, out ∙ ap (λ a. Some (bytes_in a)) (sym is))

  at_config : (d : Config (Memory Plain)) → store_in {S = Plain} (sys.Working d) ≡ Some (store_of d)
  at_config (At pc st n) = refl

  at_laid : (d : Config (Memory Plain)) → store_in {S = Plain} (sys.Laid d) ≡ Some (store_of d)
  at_laid (At pc st n) = refl

  at_over : (d : Config (Memory Plain)) → store_in {S = Plain} (sys.Over d) ≡ Some (store_of d)
  at_over (At pc st n) = refl

  -- one that told it
  told_it : (q : Name) (i : ℕ) (x : sys.Condition Plain) (d : Config (Memory Plain)) → u.condition i ≡ x
      → store_in {S = Plain} x ≡ Some (store_of d) → OutputMatches G (lv q) (λ a b. lv ((a, b) ∷ q)) q s.store d
      → OwnOrGiven (R_of G lv) q Output → OutputIsSource
  told_it q i x (At pc st n) e has t may = let y = t may in holds_it i x (At pc st n) e has y.0 y.1 y.2

  few : (a : ℕ) → a < u.births.processes → a < G.births.processes
  few a lt = let b = l.began.processes in omega (arith, lt, b)

  no_empty : (a : ℕ × ℕ) (p : Name) → [] ≡ a ∷ p → ⊥
  no_empty a p e = cc e

  -- from process i on downward, of which there are no more than so many
  downward : (f i : ℕ) → i < u.births.processes → u.births.processes ≤ i + f
      → OwnOrGiven (R_of G lv) (G.births.name i) Output
      → (G.births.name i ≡ []) ⊎ (has_ended (s.condition (G.births.name i)) ≡ false) → OutputIsSource
  downward zero i lt le may living = absurd (omega (arith, lt, le))
  downward (suc f) i lt le may living = by (u.condition i) refl (l.does i lt) (λ j a b w v. downward f j a b w v)
    where
      q : Name
      q = G.births.name i

      some_live : (c : Condition Process Rattle.sp_meaning.specs.LocalWork.LocationContent
          Rattle.sp_meaning.specs.LocalWork.Address)
          → has_ended c ≡ false → c ≡ Ended → ⊥
      some_live c e h = let bad : true ≡ false = ap (λ b. has_ended b) (sym h) ∙ e in cc bad

      -- a child that has not ended has a number, which is greater
      to_child : (k j : ℕ) → has_ended (s.condition ((k, j) ∷ G.births.name i)) ≡ false
          → s.condition ((k, j) ∷ G.births.name i) ≢ Absent → (lv ((k, j) ∷ G.births.name i)).R Output
          → ((a : ℕ) → a < u.births.processes → u.births.processes ≤ a + f
          → OwnOrGiven (R_of G lv) (G.births.name a) Output
          → (G.births.name a ≡ []) ⊎ (has_ended (s.condition (G.births.name a)) ≡ false) → OutputIsSource)
          → OutputIsSource
      to_child k j e there may next =
          let n = l.numbered ((k, j) ∷ G.births.name i) there in
          let older = greater n.0 n.1 n.2 in
          next n.0 n.1 (omega (arith, le, older)) (subst (λ y. OwnOrGiven (R_of G lv) y Output) (sym n.2) (inr may))
          (inr (ap (λ y. has_ended (s.condition y)) n.2 ∙ e))
        where
          greater : (a : ℕ) → a < u.births.processes → G.births.name a ≡ (k, j) ∷ G.births.name i → i < a
          greater zero lz e = absurd (no_empty (k, j) (G.births.name i) (sym l.began.root.1 ∙ l.began.names 0 lz ∙ e))
          greater (suc a) ls e =
              let b = l.began.born (suc a) (omega arith) ls in
              let parent : G.births.name b.birth.parent ≡ G.births.name i =
              sym (l.began.names b.birth.parent (let x = b.older in omega (arith, x, ls)))
              ∙ same_tail (sym b.named ∙ l.began.names (suc a) ls ∙ e) in
              let same : b.birth.parent ≡ i = G.one_name b.birth.parent i
              (few b.birth.parent (let x = b.older in omega (arith, x, ls))) (few i lt) parent in
              let x = b.older in omega (arith, x, same)

      by : (x : sys.Condition Plain) → u.condition i ≡ x → Performs_all G lv (G.births.name i) c s (u.births.opens i) x
          → ((j : ℕ) → j < u.births.processes → u.births.processes ≤ j + f
          → OwnOrGiven (R_of G lv) (G.births.name j) Output
          → (G.births.name j ≡ []) ⊎ (has_ended (s.condition (G.births.name j)) ≡ false) → OutputIsSource)
          → OutputIsSource
      by sys.Absent e h next = absurd h
      by (sys.Working d) e h next = ⊎_elim
          (λ z. (let y = z.stand.output may in
          holds_it i (sys.Working d) (At z.pc z.stack z.memory) e
          (ap (λ y. store_in (sys.Working y)) z.configuration_is) y.0 y.1
          (ap output_of y.2)))
          (λ z. told_it (G.births.name i) i (sys.Working d) d e (at_config d) z.output may) h.2
      by (sys.Waits a d) e h next = let z = h.2 in let y = z.stand.output may in
          holds_it i (sys.Waits a d) (At z.pc z.stack z.memory) e
          (ap (λ y. store_in (sys.Waits a y)) z.configuration_is) y.0 y.1
          (ap output_of y.2)
      by (sys.Joins left d) e (fork, count, own, joining, z, opens_are, not_laid) next = ⊎_elim
          (λ a. (let (child, (below, lives), moved) = a in
          to_child fork child lives (z.there child below) ((z.children child (below, lives)).output may moved) next))
          (λ y. holds_it i (sys.Joins left d)
          (At z.pc z.stack (record (z.memory) { store = Rattle.sp_cell.specs.Map.with_map z.memory.store z.held }))
          e (ap (λ y. store_in (sys.Joins left y)) z.configuration_is) y.0 y.1 (ap output_of y.2))
          (z.joining.output may)
      by (sys.Laid d) e (_, _, _, output) next = told_it (G.births.name i) i (sys.Laid d) d e (at_laid d) output may
      by sys.Gone e h next = ⊎_elim (λ a. absurd (h.1 a))
          (λ a. absurd (some_live (s.condition (G.births.name i)) a h.0)) living
      by (sys.Over d) e h next = told_it (G.births.name i) i (sys.Over d) d e (at_over d) h.2 may

  first_name : G.births.name 0 ≡ []
  first_name = sym (l.began.names 0 l.began.root.2) ∙ l.began.root.1

  -- the bytes are the same
  pub output_is : OutputIsSource
  output_is = downward u.births.processes 0 l.began.root.2 (omega arith)
      (subst (λ y. OwnOrGiven (R_of G lv) y Output) (sym first_name) (inr l.reads_output)) (inl first_name)

  -- the first process has ended on one side where it has on the other
  pub done_there : s.condition [] ≡ Ended → (d : Config (Memory Plain)) × (u.condition 0 ≡ sys.Over d)
  done_there e = by (u.condition 0) refl (subst (λ y. Performs_all G lv y c s (u.births.opens 0) (u.condition 0))
      first_name (l.does 0 l.began.root.2))
    where
      none : (pr : Process) → own_part_in s.condition [] (s.condition []) ≡ Some pr → ⊥
      none pr h = let bad : ◌≡◌ {A = Option Process} None (Some pr) = sym (ap (own_part_in s.condition []) e) ∙ h in
          absurd (cc bad)

      live : (x : Condition Process Rattle.sp_meaning.specs.LocalWork.LocationContent
          Rattle.sp_meaning.specs.LocalWork.Address)
          → s.condition [] ≡ x → IsLive x → ⊥
      live x h k = subst (λ y. IsLive y) (sym h ∙ e) k

      by : (x : sys.Condition Plain) → u.condition 0 ≡ x → Performs_all G lv [] c s (u.births.opens 0) x
          → (d : Config (Memory Plain)) × (u.condition 0 ≡ sys.Over d)
      by sys.Absent f h = absurd h
      by (sys.Working d) f h = absurd (none h.0 h.1)
      by (sys.Waits a d) f h = absurd (live (Waits h.0) h.1 tt)
      by (sys.Joins left d) f (fork, count, own, joining, _, _, _) = absurd (live (Joins fork count own) joining tt)
      by (sys.Laid d) f (_, _, (own, running), _) = absurd (none own running)
      by sys.Gone f h = absurd (h.1 refl)
      by (sys.Over d) f h = (d, f)
