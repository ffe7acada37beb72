-- A turn of a process writes only what it may write, and what is left to do keeps to its rights (`turn_keeps`).
use Rattle.std.proofs.Common.{◌≡◌, ◌⊎◌, inl, inr, ⊎_elim, ℕ, zero, suc, List, Bool, true, false, if◌then◌else◌, cond}
use Rattle.std.proofs.Common.{refl, sym, ap, ◌∙◌, subst}
use Rattle.sp_tree.specs.Interference.{IsFreeOfInterference}
use Rattle.sp_meaning.specs.Maps.{at_key}
use Rattle.sp_meaning.specs.Model.{Name}
use Rattle.sp_meaning.specs.EffectTree.{EffectTree, Leaf, ReadThen, WriteThen, run_tree}
use Rattle.sp_meaning.specs.LocalWork.{RunInput, Loc, Cell, LocationContent, Frame, LocalState, Identity, Item}
use Rattle.sp_meaning.specs.LocalWork.{WorkOutcome, Computed, EndsInFault, IllFormed, OutOfFuel, same_loc}
use Rattle.sp_meaning.specs.LocalWork.{give}
use Rattle.sp_meaning.specs.Actions.{Action, Stepped, Ticked, Opened, Forked, Offered, Ended}
use Rattle.sp_meaning.specs.Rights.{Fit, Fair}
use Rattle.sp_meaning.specs.SuperPascal.{fuel_of}
use Rattle.sp_meaning.specs.Run.{Store, run}
use Rattle.sp_meaning.specs.Turn as source
use Rattle.sp_meaning.proofs.ActionRights.{next_action_from}
use Rattle.sp_meaning.proofs.Instance.{loc_test}
use Rattle.sp_meaning.proofs.RightsInvariant.{Result, result_within}
use Rattle.sp_meaning.proofs.Run.{then_run, run_bind}
use Rattle.sp_meaning.proofs.Within.{StaysWithin}

module _ (g : RunInput) (free : IsFreeOfInterference g.program) (q : Name) (W R : Loc → Type 0)
    (own : (n x : ℕ) → W (Cell q n x)) (reads : (l : Loc) → W l → R l) (due : LocalState → Bool) where
  -- what it may not write is as before
  abbrev pub ChangesWritable : Store → Store → Type 0
  ChangesWritable s t = (l : Loc) → (t l ≡ s l) ⊎ W l

  pub stays_on : (s t u : Store) → ChangesWritable s t → ChangesWritable t u → ChangesWritable s u
  stays_on s t u a b l = ⊎_elim (λ (e : u l ≡ t l). ⊎_elim (λ (f : t l ≡ s l). inl (e ∙ f)) (λ w. inr w) (a l))
      (λ w. inr w) (b l)

  pub stored_within : {A : Type 0} (F : A → LocalState → Type 0) (t : EffectTree Loc LocationContent (WorkOutcome A))
      (m : Store) → StaysWithin W R F t
      → ChangesWritable m (run_tree same_loc t m).1
  stored_within F (Leaf a) m h l = inl refl
  stored_within F (ReadThen k more) m h l = stored_within F (more (m k)) m (h.1 (m k)) l
  stored_within F (WriteThen k v more) m h l = ⊎_elim
      (λ (e : (run_tree same_loc more (at_key same_loc k v m)).1 l ≡ at_key same_loc k v m l). go e (same_loc k l) refl)
      (λ w. inr w) (stored_within F more (at_key same_loc k v m) h.1 l)
    where
      go : (run_tree same_loc more (at_key same_loc k v m)).1 l ≡ at_key same_loc k v m l → (b : Bool)
          → same_loc k l ≡ b
          → ((run_tree same_loc more (at_key same_loc k v m)).1 l ≡ m l) ⊎ W l
      go e true f = inr (subst W ((loc_test k l).0 f) h.0)
      go e false f = inl (e ∙ ap (λ b. cond b v (m l)) f)

  module _ (z : List Frame) where
    abbrev pub Final : WorkOutcome source.Stop → Type 0
    Final (Computed (source.Paused todo) o) = Fit g.program W R z o.frames todo
    Final (Computed (source.Stops d) o) = Fair g.program W R z d o.frames
    Final (EndsInFault f) = Unit {0}
    Final IllFormed = Unit {0}
    Final OutOfFuel = Unit {0}

    pub record TurnKeeps (s : Store) (r : WorkOutcome source.Stop × Store) : Type 0 where
      pub stays : ChangesWritable s r.1
      pub final : Final r.0

    pub turn_keeps : (k : ℕ) (todo : List Item) (w : Identity) (o : LocalState) (s : Store) → w.name ≡ q
        → Fit g.program W R z o.frames todo → TurnKeeps s (run (source.turn g due k todo) w o s)
    turn_keeps zero todo w o s n f = record { stays = λ l. inl refl; final = tt }
    turn_keeps (suc k) todo w o s n f =
        subst (TurnKeeps s) (sym
        (run_bind (source.turn_step g due todo) (source.rest_of_turn g due (source.turn g due k)) w o s))
        (go (λ todo1 o1 s1 f1. turn_keeps k todo1 w o1 s1 n f1) (run (source.turn_step g due todo) w o s)
        (stored_within F tree s within) (result_within W R F (λ x. x) tree s within))
      where
        F : Action → LocalState → Type 0
        F d o1 = Fair g.program W R z d o1.frames

        tree : EffectTree Loc LocationContent (WorkOutcome Action)
        tree = source.turn_step g due todo w o

        within : StaysWithin W R F tree
        within = (next_action_from g q W R own reads free (fuel_of g o) z o.frames todo f).proof w o n refl

        go : ((todo1 : List Item) (o1 : LocalState) (s1 : Store) → Fit g.program W R z o1.frames todo1
            → TurnKeeps s1 (run (source.turn g due k todo1) w o1 s1)) → (r : WorkOutcome Action × Store)
            → ChangesWritable s r.1 → Result F r.0
            → TurnKeeps s (then_run (source.rest_of_turn g due (source.turn g due k)) w r)
        go ih (Computed (Stepped todo1) o1, s1) a d = let x = ih todo1 o1 s1 d in
            record { stays = stays_on s s1 _ a x.stays; final = x.final }
        go ih (Computed (Ticked todo1) o1, s1) a d = by_due (due o1)
          where
            by_due : (b : Bool) → TurnKeeps s
                (run (if b then give (source.Paused todo1) else source.turn g due k todo1) w o1
                s1)
            by_due true = record { stays = a; final = d }
            by_due false = let x = ih todo1 o1 s1 d in record { stays = stays_on s s1 _ a x.stays; final = x.final }
        go ih (Computed (Opened todo1) o1, s1) a d = record { stays = a; final = d }
        go ih (Computed (Forked bs todo1) o1, s1) a d = record { stays = a; final = d }
        go ih (Computed (Offered c x payload todo1) o1, s1) a d = record { stays = a; final = d }
        go ih (Computed Ended o1, s1) a d = record { stays = a; final = d }
        go ih (EndsInFault x, s1) a d = record { stays = a; final = tt }
        go ih (IllFormed, s1) a d = record { stays = a; final = tt }
        go ih (OutOfFuel, s1) a d = record { stays = a; final = tt }
