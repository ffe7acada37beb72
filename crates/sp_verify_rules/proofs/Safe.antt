-- The turn of a process that stands and holds what its effects ask for lacks nothing, makes the ranks fall, and stops
-- as it should. What it holds is left open: it is the part of the invariant that speaks of the store.
use Rattle.std.proofs.Common.{◌≡◌, ℕ, zero, suc, List, ◌∷◌, sym, subst}
use Rattle.sp_code.specs.Machine.{Entry, Stop, Forks, Opens, Sends, Receives, Ends, Pauses, Config, At, Goes, Stops}
use Rattle.sp_code.specs.Machine.{Stuck, next_step}
use Rattle.sp_code.specs.Turns.{RunsIn, IsSafe, Stopped, Runs}
use Rattle.sp_code.specs.Ranks.{RanksFall, IsRankedAlong}
use Rattle.sp_code.specs.Memory.{CodeRun, Stores, Memory, memory}
use Rattle.sp_verify_rules.specs.Areas.{Area, instr_at}
use Rattle.sp_verify_rules.specs.Touches.{MemorySuffices}
use Rattle.sp_verify_rules.specs.InstructionFacts.{ProcessAt, StoppedAt}
use Rattle.sp_verify_rules.specs.Changes.{areas, areas_of, Changes, Well, IsHere}
use Rattle.sp_verify_rules.specs.Rules.{BreaksV9}
use Rattle.sp_verify_rules.specs.KeepsCodeRules.{KeepsCodeRules}
use Rattle.sp_verify_rules.proofs.Turns.{fine}
use Rattle.sp_verify_rules.proofs.FrameScopes.{scoped}
use Rattle.sp_verify_rules.proofs.ShapePaths.{here, passes}
use Rattle.sp_verify_rules.proofs.RankLaws.{ranked_at}

module _ {S : Type 0} (stores : Stores S) (g : CodeRun) (k : KeepsCodeRules g.code) where
  -- what a process at p that stands so needs
  abbrev pub ReadyAt : (p : ℕ) (st : List Entry) (n : Memory S) → ProcessAt g.code p st n.frames → Type 0
  ReadyAt p st n s = MemorySuffices stores g s.area (instr_at g.code p) s.shapes n

  -- how its instruction changes its memory
  abbrev pub ChangesAt : (p : ℕ) (st : List Entry) (n : Memory S) → ProcessAt g.code p st n.frames → List Area
      → Memory S
      → Type 0
  ChangesAt p st n s vs m = Changes stores g s.area (instr_at g.code p) s.shapes n (areas s) vs m

  -- one instruction
  pub one_well : (p : ℕ) (st : List Entry) (n : Memory S) (s : ProcessAt g.code p st n.frames) → ReadyAt p st n s
      → Well stores g s.area (instr_at g.code p) s.shapes n (areas s) (next_step (memory stores g) g.code (At p st n))
  one_well p st n s r = fine stores g (scoped g.code k) s.area p s.shapes s.callers s.rest st n
      (record { there = s.there; reached = s.reached; framed = s.framed; operands = s.operands; under = s.under })
      (instr_at g.code p)
      (here g.code k s.area p s.shapes s.there s.reached) r

  -- what else is known of a process that stands: enough for its next instruction, and kept by it
  module _ (Holds : (p : ℕ) (st : List Entry) (n : Memory S) → ProcessAt g.code p st n.frames → Type 0)
      (ready : (p : ℕ) (st : List Entry) (n : Memory S) (s : ProcessAt g.code p st n.frames) → Holds p st n s
      → ReadyAt p st n s)
      (kept : (p q : ℕ) (st s1 : List Entry) (n m : Memory S) (s : ProcessAt g.code p st n.frames)
      (t : ProcessAt g.code q s1 m.frames) → Holds p st n s → ChangesAt p st n s (areas t) m → Holds q s1 m t) where
    -- both
    abbrev pub StandsWith : Config (Memory S) → Type 0
    StandsWith (At p st n) = (s : ProcessAt g.code p st n.frames) × Holds p st n s

    -- the process where it stopped: with an end, where it was; else where it goes on
    abbrev pub AtStop : Stop → Config (Memory S) → Type 0
    AtStop Ends (At q s1 m) = (p : ℕ) × (st : List Entry) × (s : ProcessAt g.code p st m.frames) × Holds p st m s
        × ((t : StoppedAt g.code Ends q s1 m.frames) × (t.area ∷ areas_of t.callers ≡ areas s))
    AtStop x (At q s1 m) = (s : ProcessAt g.code q s1 m.frames) × Holds q s1 m s
        × ((t : StoppedAt g.code x q s1 m.frames) × IsHere stores g m x (t.area ∷ areas_of t.callers) (areas s))

    goes : (c d : Config (Memory S)) → StandsWith c → next_step (memory stores g) g.code c ≡ Goes d → StandsWith d
    goes (At p st n) (At q s1 m) w e =
        let o = subst (λ z. Well stores g w.0.area (instr_at g.code p) w.0.shapes n (areas w.0) z) e
        (one_well p st n w.0 (ready p st n w.0 w.1)) in
        (o.0, kept p q st s1 n m w.0 o.0 w.1 o.1)

    pub comes_in : (n : ℕ) (c d : Config (Memory S)) → StandsWith c → RunsIn (memory stores g) g.code n c d
        → StandsWith d
    comes_in zero c d w e = subst (λ z. StandsWith z) e w
    comes_in (suc n) c d w h = comes_in n h.0 d (goes c h.0 w h.1) h.2

    -- no instruction of its turn lacks anything
    pub safe : (c : Config (Memory S)) → StandsWith c → IsSafe (memory stores g) g.code c
    safe c w b d h e = stuck d (comes_in h.steps c d w h.proof) e
      where
        stuck : (d : Config (Memory S)) → StandsWith d → next_step (memory stores g) g.code d ≡ Stuck → ⊥
        stuck (At p st n) w e = subst (λ z. Well stores g w.0.area (instr_at g.code p) w.0.shapes n (areas w.0) z) e
            (one_well p st n w.0 (ready p st n w.0 w.1))

    -- and where it stops, the stop is as it should be
    pub stops_well : (c d : Config (Memory S)) (x : Stop) → StandsWith c → Runs (memory stores g) g.code c (Stopped x d)
        → AtStop x d
    stops_well c d x w (e, h, m) = at_stop e (comes_in h.steps c e w h.proof) d x m
      where
        at_stop : (e : Config (Memory S)) → StandsWith e → (d : Config (Memory S)) (x : Stop)
            → next_step (memory stores g) g.code e ≡ Stops x d → AtStop x d
        at_stop (At p st n) w (At q s1 m) x e = by x
            (subst (λ z. Well stores g w.0.area (instr_at g.code p) w.0.shapes n (areas w.0) z) e
            (one_well p st n w.0 (ready p st n w.0 w.1)))
          where
            by : (x : Stop) → Well stores g w.0.area (instr_at g.code p) w.0.shapes n (areas w.0) (Stops x (At q s1 m))
                → AtStop x (At q s1 m)
            by Ends o = subst (λ z. (p : ℕ) × (st : List Entry) × (s : ProcessAt g.code p st z.frames) × Holds p st z s
                × ((t : StoppedAt g.code Ends q s1 m.frames)
                × (t.area ∷ areas_of t.callers ≡ areas s))) (sym o.1) (p, st, w.0, w.1, (o.0, o.2))
            by (Forks t v j) (stopped, s, changes, here) =
                (s, kept p q st s1 n m w.0 s w.1 changes, (stopped, here))
            by (Opens t) (stopped, s, changes, here) =
                (s, kept p q st s1 n m w.0 s w.1 changes, (stopped, here))
            by (Sends ch j cs) (stopped, s, changes, here) =
                (s, kept p q st s1 n m w.0 s w.1 changes, (stopped, here))
            by (Receives ch j t) (stopped, s, changes, here) =
                (s, kept p q st s1 n m w.0 s w.1 changes, (stopped, here))
            by Pauses (stopped, s, changes, here) =
                (s, kept p q st s1 n m w.0 s w.1 changes, (stopped, here))

    -- the ranks fall along its turn, so it ends
    module _ (v9 : (p : ℕ) → BreaksV9 g.code p → ⊥) where
      ranks_fall : (d : Config (Memory S)) → StandsWith d → RanksFall g.code d
      ranks_fall (At p st n) w = ranked_at g.code v9 w.0.area p
          (w.0.there, passes g.code w.0.area p w.0.shapes w.0.reached)

      -- along all that its turn comes to
      pub ranks_along : (c : Config (Memory S)) → StandsWith c → IsRankedAlong (memory stores g) g.code c
      ranks_along c w d h = ranks_fall d (comes_in h.steps c d w h.proof)
