-- At a fork the children get their lives: what is said of others goes over (`does_lives`), and so does the invariant of
-- rights (`inv_same`).
use Rattle.std.proofs.Common.{◌≡◌, inl, inr, ⊎_elim, ℕ, ◌∷◌, sym, subst}
use Rattle.sp_cell.specs.Map.{Plain}
use Rattle.sp_meaning.specs.Model.{Name, Payload, Message, Takes, Condition, Absent, Works, Waits, Joins, Ended}
use Rattle.sp_meaning.specs.LocalWork.{Loc, LocationContent, Address, Process}
use Rattle.sp_meaning.specs.Rights.{MayTake}
use Rattle.sp_meaning.specs.Runs.{StateOf}
use Rattle.sp_meaning.specs.Along.{JournalState}
use Rattle.sp_meaning.proofs.RightsInvariant.{Inv, ConditionInRights, Keeps_to, more_fit}
use Rattle.sp_meaning.proofs.Rights.{OwnOrGiven}
use Rattle.sp_code.specs.System as sys
use Rattle.sp_link.proofs.Relation.{RunContext, RightsOfAll, Performs, Performs_all}

-- what a process does is told by its life and those of its children
pub does_lives : (G : RunContext) (lv lv1 : RightsOfAll G) (r : Name) → lv1 r ≡ lv r
    → ((k i : ℕ) → lv1 ((k, i) ∷ r) ≡ lv ((k, i) ∷ r))
    → (c : JournalState) (s : StateOf G.g) (opens : ℕ) (x : sys.Condition Plain) → Performs_all G lv r c s opens x
    → Performs_all G lv1 r c s opens x
does_lives G lv lv1 r e h c s opens x d =
    subst (λ y. Performs G (lv1 r) y r c s opens x) (λ j k i. sym (h k i) j)
    (subst (λ y. Performs G y (λ k i. lv ((k, i) ∷ r)) r c s opens x) (sym e) d)

-- rights that are the same in other words
module _ (G : RunContext) (W R V T : Name → Loc → Type 0) (wv : (q : Name) (l : Loc) → W q l → V q l)
    (vw : (q : Name) (l : Loc) → V q l → W q l) (rt : (q : Name) (l : Loc) → R q l → T q l)
    (tr : (q : Name) (l : Loc) → T q l → R q l) where
  all_w : (q : Name) (l : Loc) → OwnOrGiven W q l → OwnOrGiven V q l
  all_w q l h = ⊎_elim (λ m. inl m) (λ w. inr (wv q l w)) h

  all_r : (q : Name) (l : Loc) → OwnOrGiven R q l → OwnOrGiven T q l
  all_r q l h = ⊎_elim (λ m. inl m) (λ w. inr (rt q l w)) h

  keeps_same : (f : Name → ℕ) (q : Name) (pr : Process) → Keeps_to G.g.program W R f q pr
      → Keeps_to G.g.program V T f q pr
  keeps_same f q pr k = record {
    named = k.named;
    forked = k.forked;
    last = k.last;
    fit = more_fit G.g.program (OwnOrGiven W q) (OwnOrGiven R q) (OwnOrGiven V q) (OwnOrGiven T q) (all_w q) (all_r q)
        k.last pr.own.frames
        pr.todo k.fit;
  }

  takes_same : (q : Name) (x : Payload LocationContent Address)
      → MayTake G.g.program (OwnOrGiven W q) (OwnOrGiven R q) x
      → MayTake G.g.program (OwnOrGiven V q) (OwnOrGiven T q) x
  takes_same q (Message v) h = tt
  takes_same q (Takes a) h = all_w q a.spot h

  holds_same : (f : Name → ℕ) (q : Name) (c : Condition Process LocationContent Address)
      → ConditionInRights G.g.program W R f q c
      → ConditionInRights G.g.program V T f q c
  holds_same f q Absent h = h
  holds_same f q (Works pr) h = keeps_same f q pr h
  holds_same f q (Waits o) h = (keeps_same f q o.next h.0, takes_same q o.payload h.1)
  holds_same f q (Joins k n pr) h = keeps_same f q pr h
  holds_same f q Ended h = tt

  pub inv_same : (c : Name → Condition Process LocationContent Address) (f : Name → ℕ) → Inv G.g.program W R c f
      → Inv G.g.program V T c f
  inv_same c f i = record {
    holds = λ q. holds_same f q (c q) (i.holds q);
    unborn = i.unborn;
    fair = record {
      reads = λ q l h. rt q l (i.fair.reads q l (vw q l h));
      above = λ q l h. i.fair.above q l (tr q l h);
      less_write = λ q k n l h. all_w q l (i.fair.less_write q k n l (vw ((k, n) ∷ q) l h));
      less_read = λ q k n l h. all_r q l (i.fair.less_read q k n l (tr ((k, n) ∷ q) l h));
      apart = λ q k n m l e h g. i.fair.apart q k n m l e (vw ((k, n) ∷ q) l h) (tr ((k, m) ∷ q) l g);
    };
    unknown = λ q k n l le h. i.unknown q k n l le (tr ((k, n) ∷ q) l h);
  }
