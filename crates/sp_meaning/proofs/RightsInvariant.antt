-- The invariant behind disjointness holds along every lawful schedule.
use Rattle.std.proofs.Common.{◌≡◌, inl, inr, ⊎_elim, ℕ, suc, ◌+◌, ◌<◌, ◌≤◌, ◌==◌, ◌&&◌, Bool, true, false}
use Rattle.std.proofs.Common.{cond, List, [], ◌∷◌, length, Option, Some, None, refl, sym, ap, ◌∙◌, subst, arith}
use Rattle.std.proofs.Common.{if◌then◌else◌, eq-eqb}
use Rattle.std.specs.Prelude.{slice_get}
use Rattle.std.proofs.lemmas.Bool.{and_from, cases_lt}
use Rattle.std.proofs.lemmas.Option.{none-some, same_Some}
use Rattle.sp_base.specs.declared.fault.Fault.{Fault}
use Rattle.sp_base.specs.declared.fault.Fault.TheVariants as fault
use Rattle.sp_base.proofs.Facts.{is_plus_none, next_goes_right}
use Rattle.sp_tree.specs.Plain.{Program, Stmt}
use Rattle.sp_meaning.specs.Maps.{at_key}
use Rattle.sp_meaning.specs.Model.{Name, same_name, Totals, Language, Offering}
use Rattle.sp_meaning.specs.Model.{Payload}
use Rattle.sp_meaning.specs.Model.{Message, Takes, Condition, Absent, Works, Waits, Joins, Ended, State, Becomes}
use Rattle.sp_meaning.specs.Model.{Forked, WritesLocation, Pends, AddsTotals, Faults, with_change, with_changes}
use Rattle.sp_meaning.specs.Steps.{ActOf, OfferOf, ConditionOf, own_part_in, ActOutcome, Advances, Faulty}
use Rattle.sp_meaning.specs.Steps.{write_changes, birth_changes}
use Rattle.sp_meaning.specs.Steps.{message, handover_outcome, meeting_outcome, offer_outcome, act_outcome, cost}
use Rattle.sp_meaning.specs.Steps.{limit_fault, fault_or, result_of, step_with}
use Rattle.sp_meaning.specs.Steps.{step, process_system, all_ended}
use Rattle.sp_meaning.specs.Schedules.{ScheduleLeads}
use Rattle.sp_meaning.specs.Disjoint.{IsWrittenIn, Assigns, receiver, Receiving, WritesIn, AccessesIn, Happens}
use Rattle.sp_meaning.specs.Disjoint.{IsDisjoint}
use Rattle.sp_meaning.specs.EffectTree.{EffectTree, Leaf, ReadThen, WriteThen, and_then, run_tree, TreeTouches}
use Rattle.sp_meaning.specs.EffectTree.{tree_writes}
use Rattle.sp_meaning.specs.LocalWork.{RunInput, Loc, Cell, LocationContent, Address, Frame, LocalState, Identity, Item}
use Rattle.sp_meaning.specs.LocalWork.{Do, First, Again, Test}
use Rattle.sp_meaning.specs.LocalWork.{Leave, Break, Process, WorkOutcome, Computed, EndsInFault, IllFormed, OutOfFuel}
use Rattle.sp_meaning.specs.LocalWork.{same_loc}
use Rattle.sp_meaning.specs.Actions.{Birth, Action, Stepped, Ticked, Opened, Forked as Forks_it, Offered, new_process}
use Rattle.sp_meaning.specs.Actions.{new_processes}
use Rattle.sp_meaning.specs.Actions as actions
use Rattle.sp_meaning.specs.SuperPascal.{fuel_of, action_of, act_tree, act_of, superpascal}
use Rattle.sp_meaning.proofs.Keys.{name_test}
use Rattle.sp_meaning.proofs.EffectTree.{answer_then}
use Rattle.sp_meaning.proofs.Instance.{loc_test}
use Rattle.sp_tree.specs.Uses.{Use, Target, Seen}
use Rattle.sp_tree.specs.Interference.{IsFreeOfInterference}
use Rattle.sp_meaning.specs.Rights.{Right, ItemsAreSound, frames_below, Linked, Fit, Sound, Born, Fair, MayTake}
use Rattle.sp_meaning.proofs.Within.{StaysWithin}
use Rattle.sp_meaning.proofs.ActionRights.{next_action_from}
use Rattle.sp_meaning.proofs.Rights.{OwnOrGiven, Fair_rights, parallel_apart}
use Rattle.sp_meaning.proofs.Children.{AimedAt, UsedAt, writes_after, reads_after, all_writes, all_reads}
use Rattle.sp_meaning.proofs.Children.{fair_after, child_fit, it_is}
use Rattle.sp_meaning.specs.Along.{Either}

-- of a tree that keeps within its rights: its answer, what it asks for, what it writes

abbrev pub Result : {A : Type 0} → (A → LocalState → Type 0) → WorkOutcome A → Type 0
Result F (Computed a o) = F a o
Result F (EndsInFault f) = Unit {0}
Result F IllFormed = Unit {0}
Result F OutOfFuel = Unit {0}

module _ {A B : Type 0} (W R : Loc → Type 0) (F : A → LocalState → Type 0) (g : WorkOutcome A → B) where
  pub result_within : (t : EffectTree Loc LocationContent (WorkOutcome A)) (m : Loc → LocationContent)
      → StaysWithin W R F t
      → Result F (run_tree same_loc t m).0
  result_within (Leaf (Computed a o)) m h = h
  result_within (Leaf (EndsInFault f)) m h = tt
  result_within (Leaf IllFormed) m h = tt
  result_within (Leaf OutOfFuel) m h = tt
  result_within (ReadThen l more) m h = result_within (more (m l)) m (h.1 (m l))
  result_within (WriteThen l v more) m h = result_within more (at_key same_loc l v m) h.1

  pub asked : ((l : Loc) → W l → R l) → (t : EffectTree Loc LocationContent (WorkOutcome A)) (m : Loc → LocationContent)
      → StaysWithin W R F t → (l : Loc)
      → TreeTouches same_loc (and_then t (λ r. Leaf (g r))) m l → R l
  asked i (Leaf a) m h l k = absurd k
  asked i (ReadThen j more) m h l (inl e) = subst R e h.0
  asked i (ReadThen j more) m h l (inr k) = asked i (more (m j)) m (h.1 (m j)) l k
  asked i (WriteThen j v more) m h l (inl e) = subst R e (i j h.0)
  asked i (WriteThen j v more) m h l (inr k) = asked i more (at_key same_loc j v m) h.1 l k

  pub written : (t : EffectTree Loc LocationContent (WorkOutcome A)) (m : Loc → LocationContent) → StaysWithin W R F t
      → (l : Loc)
      → IsWrittenIn (tree_writes same_loc (and_then t (λ r. Leaf (g r))) m) l → W l
  written (Leaf a) m h l k = absurd k
  written (ReadThen j more) m h l k = written (more (m j)) m (h.1 (m j)) l k
  written (WriteThen j v more) m h l (inl e) = subst W e h.0
  written (WriteThen j v more) m h l (inr k) = written more (at_key same_loc j v m) h.1 l k

module _ (p : Program) where
  -- a process with its rights
  pub record Keeps_to (W R : Name → Loc → Type 0) (f : Name → ℕ) (q : Name) (pr : Process) : Type 0 where
    pub named : pr.who.name ≡ q
    pub forked : pr.who.forks ≡ f q
    pub last : List Frame
    pub fit : Fit p (OwnOrGiven W q) (OwnOrGiven R q) last pr.own.frames pr.todo

  abbrev pub ConditionInRights : (Name → Loc → Type 0) → (Name → Loc → Type 0) → (Name → ℕ) → Name
      → Condition Process LocationContent Address
      → Type 0
  ConditionInRights W R f q Absent = f q ≡ 0
  ConditionInRights W R f q (Works pr) = Keeps_to W R f q pr
  ConditionInRights W R f q (Waits o) = Keeps_to W R f q o.next × MayTake p (OwnOrGiven W q) (OwnOrGiven R q) o.payload
  ConditionInRights W R f q (Joins k n pr) = Keeps_to W R f q pr
  ConditionInRights W R f q Ended = Unit {0}

  pub record Inv (W R : Name → Loc → Type 0) (c : Name → Condition Process LocationContent Address) (f : Name → ℕ) :
      Type 0 where
    pub holds : (q : Name) → ConditionInRights W R f q (c q)
    pub unborn : (q : Name) (k i : ℕ) → f q ≤ k → c ((k, i) ∷ q) ≡ Absent
    pub fair : Fair_rights W R
    pub unknown : (q : Name) (k i : ℕ) (l : Loc) → f q ≤ k → R ((k, i) ∷ q) l → ⊥

  abbrev pub IsForkedName : (Name → ℕ) → Name → Type 0
  IsForkedName f [] = Unit {0}
  IsForkedName f (a ∷ q) = a.0 < f q

  pub known_if : (W R : Name → Loc → Type 0) (c : Name → Condition Process LocationContent Address) (f : Name → ℕ)
      → Inv W R c f
      → (q : Name) → (c q ≡ Absent → ⊥) → IsForkedName f q
  known_if W R c f i [] h = tt
  known_if W R c f i (a ∷ q) h = ⊎_elim (λ (lt : a.0 < f q). lt)
      (λ (le : f q ≤ a.0). absurd (h (i.unborn q a.0 a.1 le))) (cases_lt a.0 (f q))

  pub known_is : (f : Name → ℕ) (q r : Name) (k i : ℕ) → IsForkedName f q → q ≡ (k, i) ∷ r → f r ≤ k → ⊥
  known_is f q r k i h e le = let x : IsForkedName f ((k, i) ∷ r) = subst (λ z. IsForkedName f z) e h in
      absurd (omega (arith, x, le))

  pub becomes : (W R : Name → Loc → Type 0) (c : Name → Condition Process LocationContent Address) (f : Name → ℕ)
      (q : Name)
      (x : Condition Process LocationContent Address) → Inv W R c f → IsForkedName f q → ConditionInRights W R f q x
      → Inv W R (at_key same_name q x c) f
  becomes W R c f q x i known h = record {
    holds = λ r. one r (same_name q r) refl;
    unborn = λ r k n le. none r k n le (same_name q ((k, n) ∷ r)) refl;
    fair = i.fair;
    unknown = i.unknown;
  }
    where
      one : (r : Name) (b : Bool) → same_name q r ≡ b → ConditionInRights W R f r (cond b x (c r))
      one r true e = subst (λ z. ConditionInRights W R f z x) ((name_test q r).0 e) h
      one r false e = i.holds r

      none : (r : Name) (k n : ℕ) → f r ≤ k → (b : Bool) → same_name q ((k, n) ∷ r) ≡ b
          → cond b x (c ((k, n) ∷ r)) ≡ Absent
      none r k n le true e = absurd (known_is f q r k n known ((name_test q ((k, n) ∷ r)).0 e) le)
      none r k n le false e = i.unborn r k n le

  module _ (W R V T : Loc → Type 0) (w : (l : Loc) → W l → V l) (r : (l : Loc) → R l → T l) where
    more_right : (u : Use) (l : Loc) → Right p W R u l → Right p V T u l
    more_right (Target x) l h = w l h
    more_right (Seen x) l h = r l h
    more_right _ _ _ = tt

    pub more_sound : (fs : List Frame) {Here : Use → Type 0} → Sound p W R fs Here → Sound p V T fs Here
    more_sound fs so = record {
      allowed = λ bs u d x l t. more_right u l (so.allowed bs u d x l t);
      apart = so.apart;
      kept = so.kept;
    }

    pub more_ready : (fs : List Frame) (todo : List Item) → ItemsAreSound p W R fs todo → ItemsAreSound p V T fs todo
    more_ready fs [] h = tt
    more_ready fs (Do s ∷ todo) h = (more_sound fs h.0, more_ready fs todo h.1)
    more_ready fs (First x m n down s ∷ todo) h = (more_sound fs h.0, more_ready fs todo h.1)
    more_ready fs (Again x n down s ∷ todo) h = (more_sound fs h.0, more_ready fs todo h.1)
    more_ready fs (Test s e ∷ todo) h = (more_sound fs h.0, more_ready fs todo h.1)
    more_ready fs (Leave ∷ todo) h = more_ready (frames_below fs) todo h
    more_ready fs (Break f ∷ todo) h = more_ready fs todo h

    pub more_fit : (z fs : List Frame) (todo : List Item) → Fit p W R z fs todo → Fit p V T z fs todo
    more_fit z fs todo f = record { linked = f.linked; ready = more_ready fs todo f.ready; ends = f.ends }

    more_take : (g : Payload LocationContent Address) → MayTake p W R g → MayTake p V T g
    more_take (Message v) h = tt
    more_take (Takes a) h = w a.spot h

  -- the conditions after the births
  abbrev pub after_births : Name → ℕ → ℕ → List Process → (Name → Condition Process LocationContent Address) → Name
      → Condition Process LocationContent Address
  after_births q k i [] d = d
  after_births q k i (x ∷ xs) d = after_births q k (suc i) xs (at_key same_name ((k, i) ∷ q) (Works x) d)

  -- a fork of q
  module _ (W R : Name → Loc → Type 0) (c : Name → Condition Process LocationContent Address) (f : Name → ℕ)
      (inv : Inv W R c f)
      (q : Name) (known : IsForkedName f q) (w : Identity) (o : LocalState) (named : w.name ≡ q)
      (counted : w.forks ≡ f q)
      (next : Process) (next_named : next.who.name ≡ q) (next_forked : next.who.forks ≡ f q + 1) (last : List Frame)
      (next_fit : Fit p (OwnOrGiven W q) (OwnOrGiven R q) last next.own.frames next.todo)
      (ss : List Stmt) (bs : List Birth) (born : Born p (OwnOrGiven W q) (OwnOrGiven R q) o.frames ss bs)
      (linked : Linked o.frames) where
    abbrev W' : Name → Loc → Type 0
    W' = writes_after p W R q (f q) o.frames ss

    abbrev R' : Name → Loc → Type 0
    R' = reads_after p W R q (f q) o.frames ss

    abbrev f' : Name → ℕ
    f' = at_key same_name q (f q + 1) f

    new : (i : ℕ) (l : Loc) → R ((f q, i) ∷ q) l → ⊥
    new i l h = inv.unknown q (f q) i l (omega arith) h

    grow_w : (r : Name) (l : Loc) → OwnOrGiven W r l → OwnOrGiven W' r l
    grow_w r l h = all_writes p W R q (f q) o.frames ss inv.fair new r l h

    grow_r : (r : Name) (l : Loc) → OwnOrGiven R r l → OwnOrGiven R' r l
    grow_r r l h = all_reads p W R q (f q) o.frames ss inv.fair new r l h

    f'_is : f' q ≡ f q + 1
    f'_is = ap (λ b. cond b (f q + 1) (f q)) ((name_test q q).1 refl)

    f'_other : (r : Name) → same_name q r ≡ false → f' r ≡ f r
    f'_other r e = ap (λ b. cond b (f q + 1) (f r)) e

    f'_more : (r : Name) → f r ≤ f' r
    f'_more r = go (same_name q r) refl
      where
        go : (b : Bool) → same_name q r ≡ b → f r ≤ cond b (f q + 1) (f r)
        go true e = let x : f q ≡ f r = ap f ((name_test q r).0 e) in omega (arith, x)
        go false e = omega arith

    kept_to : (r : Name) (pr : Process) → f' r ≡ f r → Keeps_to W R f r pr → Keeps_to W' R' f' r pr
    kept_to r pr e k = record {
      named = k.named;
      forked = k.forked ∙ sym e;
      last = k.last;
      fit = more_fit (OwnOrGiven W r) (OwnOrGiven R r) (OwnOrGiven W' r) (OwnOrGiven R' r) (grow_w r) (grow_r r) k.last
          pr.own.frames pr.todo
          k.fit;
    }

    held : (r : Name) (x : Condition Process LocationContent Address) → f' r ≡ f r → ConditionInRights W R f r x
        → ConditionInRights W' R' f' r x
    held r Absent e h = e ∙ h
    held r (Works pr) e h = kept_to r pr e h
    held r (Waits o) e h = (
      kept_to r o.next e h.0,
      more_take (OwnOrGiven W r) (OwnOrGiven R r) (OwnOrGiven W' r) (OwnOrGiven R' r) (grow_w r)
          (grow_r r) o.payload h.1,
    )
    held r (Joins k n pr) e h = kept_to r pr e h
    held r Ended e h = tt

    joins : (count : ℕ) → Inv W' R' (at_key same_name q (Joins (f q) count next) c) f'
    joins count = record {
      holds = λ r. one r (same_name q r) refl;
      unborn = λ r k n le. none r k n le (same_name q ((k, n) ∷ r)) refl;
      fair = fair_after p W R q (f q) o.frames ss inv.fair new bs born;
      unknown = λ r k n l le h. strange r k n l le (same_name q r && (k == f q)) refl h;
    }
      where
        own : Keeps_to W' R' f' q next
        own = record {
          named = next_named;
          forked = next_forked ∙ sym f'_is;
          last = last;
          fit = more_fit (OwnOrGiven W q) (OwnOrGiven R q) (OwnOrGiven W' q) (OwnOrGiven R' q) (grow_w q) (grow_r q)
              last next.own.frames
              next.todo next_fit;
        }

        one : (r : Name) (b : Bool) → same_name q r ≡ b
            → ConditionInRights W' R' f' r (cond b (Joins (f q) count next) (c r))
        one r true e = subst (λ z. Keeps_to W' R' f' z next) ((name_test q r).0 e) own
        one r false e = held r (c r) (f'_other r e) (inv.holds r)

        none : (r : Name) (k n : ℕ) → f' r ≤ k → (b : Bool) → same_name q ((k, n) ∷ r) ≡ b
            → cond b (Joins (f q) count next) (c ((k, n) ∷ r)) ≡ Absent
        none r k n le true e = absurd (known_is f q r k n known ((name_test q ((k, n) ∷ r)).0 e)
            (omega (arith, le, f'_more r)))
        none r k n le false e = inv.unborn r k n (omega (arith, le, f'_more r))

        strange : (r : Name) (k n : ℕ) (l : Loc) → f' r ≤ k → (b : Bool) → (same_name q r && (k == f q)) ≡ b
            → Either b (UsedAt p (OwnOrGiven W q) (OwnOrGiven R q) o.frames (slice_get ss n) l) (R ((k, n) ∷ r) l) → ⊥
        strange r k n l le true e h =
            let t = it_is p W R q (f q) o.frames ss r k e in
            let u : f' q ≤ k = subst (λ z. f' z ≤ k) (sym t.0) le in
            omega (arith, u, f'_is, t.1)
        strange r k n l le false e h = inv.unknown r k n l (omega (arith, le, f'_more r)) h

    longer : (a : ℕ × ℕ) → same_name q (a ∷ q) ≡ false
    longer a = go (same_name q (a ∷ q)) refl
      where
        go : (b : Bool) → same_name q (a ∷ q) ≡ b → b ≡ false
        go true e = let x : length q ≡ suc (length q) = ap length ((name_test q (a ∷ q)).0 e) in
            absurd (omega (arith, x))
        go false e = refl

    never_forked : (i : ℕ) → f ((f q, i) ∷ q) ≡ 0
    never_forked i = subst (λ x. ConditionInRights W R f ((f q, i) ∷ q) x) (inv.unborn q (f q) i (omega arith))
        (inv.holds ((f q, i) ∷ q))

    it : (same_name q q && (f q == f q)) ≡ true
    it = and_from (same_name q q) (f q == f q) ((name_test q q).1 refl) (eq-eqb (f q) (f q) refl)

    is_write : (i : ℕ) (l : Loc) → AimedAt p (OwnOrGiven W q) (OwnOrGiven R q) o.frames (slice_get ss i) l
        → OwnOrGiven W' ((f q, i) ∷ q) l
    is_write i l h = inr (subst (λ b. Either b (AimedAt p (OwnOrGiven W q) (OwnOrGiven R q) o.frames (slice_get ss i) l)
        (W ((f q, i) ∷ q) l)) (sym it) h)

    is_read : (i : ℕ) (l : Loc) → UsedAt p (OwnOrGiven W q) (OwnOrGiven R q) o.frames (slice_get ss i) l
        → OwnOrGiven R' ((f q, i) ∷ q) l
    is_read i l h = inr (subst (λ b. Either b (UsedAt p (OwnOrGiven W q) (OwnOrGiven R q) o.frames (slice_get ss i) l)
        (R ((f q, i) ∷ q) l)) (sym it) h)

    births_keep : (i : ℕ) (ts : List Stmt) (cs : List Birth) (d : Name → Condition Process LocationContent Address)
        → Born p (OwnOrGiven W q) (OwnOrGiven R q) o.frames ts cs
        → ((j : ℕ) (l : Loc) → AimedAt p (OwnOrGiven W q) (OwnOrGiven R q) o.frames (slice_get ts j) l
        → OwnOrGiven W' ((f q, j + i) ∷ q) l)
        → ((j : ℕ) (l : Loc) → UsedAt p (OwnOrGiven W q) (OwnOrGiven R q) o.frames (slice_get ts j) l
        → OwnOrGiven R' ((f q, j + i) ∷ q) l)
        → Inv W' R' d f' → Inv W' R' (after_births q (f q) i (new_processes w o i cs) d) f'
    births_keep i [] [] d b a u v = v
    births_keep i [] (e ∷ cs) d b a u v = absurd b
    births_keep i (t ∷ ts) [] d b a u v = absurd b
    births_keep i (t ∷ ts) (e ∷ cs) d (todo_is, sound, _, others) a u v =
        births_keep (suc i) ts cs (at_key same_name ((f q, i) ∷ q) (Works (new_process w o i e)) d) others
        (λ j l h. subst (λ n. OwnOrGiven W' ((f q, n) ∷ q) l) (next_goes_right j i) (a (suc j) l h))
        (λ j l h. subst (λ n. OwnOrGiven R' ((f q, n) ∷ q) l) (next_goes_right j i) (u (suc j) l h))
        (becomes W' R' d f' ((f q, i) ∷ q) (Works (new_process w o i e)) v (omega (arith, f'_is)) child)
      where
        first : 0 + i ≡ i
        first = omega arith

        name_is : ◌≡◌ {A = Name} ((w.forks, i) ∷ w.name) ((f q, i) ∷ q)
        name_is = λ z. (counted z, i) ∷ named z

        child : Keeps_to W' R' f' ((f q, i) ∷ q) (new_process w o i e)
        child = record {
          named = name_is;
          forked = sym (f'_other ((f q, i) ∷ q) (longer (f q, i)) ∙ never_forked i);
          last = _;
          fit = child_fit p (OwnOrGiven W q) (OwnOrGiven R q) (OwnOrGiven W' ((f q, i) ∷ q))
              (OwnOrGiven R' ((f q, i) ∷ q)) o.frames
              ((w.forks, i) ∷ w.name) e.index t sound
              (λ l h. subst (λ n. OwnOrGiven W' ((f q, n) ∷ q) l) first (a 0 l h))
              (λ l h. subst (λ n. OwnOrGiven R' ((f q, n) ∷ q) l) first (u 0 l h)) linked e.todo todo_is;
        }

    pub forks_keep : (count : ℕ) → Inv W' R'
        (after_births q (f q) 0 (new_processes w o 0 bs) (at_key same_name q (Joins (f q) count next) c)) f'
    forks_keep count = births_keep 0 ss bs _ born
        (λ j l h. subst (λ n. OwnOrGiven W' ((f q, n) ∷ q) l) (is_plus_none j) (is_write j l h))
        (λ j l h. subst (λ n. OwnOrGiven R' ((f q, n) ∷ q) l) (is_plus_none j) (is_read j l h)) (joins count)

pub puts_condition : (L : Language) (ws : List (L.Loc × L.Value)) (s : State L)
    → (with_changes (write_changes {L = L} ws) s).condition ≡ s.condition
puts_condition L [] s = refl
puts_condition L (w ∷ ws) s = puts_condition L ws (with_change (WritesLocation w.0 w.1) s)

pub puts_forks : (L : Language) (ws : List (L.Loc × L.Value)) (s : State L)
    → (with_changes (write_changes {L = L} ws) s).forks ≡ s.forks
puts_forks L [] s = refl
puts_forks L (w ∷ ws) s = puts_forks L ws (with_change (WritesLocation w.0 w.1) s)

module _ (set : RunInput) (totals : Totals) (free : IsFreeOfInterference set.program) where
  abbrev L : Language
  L = superpascal set

  pub born_condition : (q : Name) (k i : ℕ) (os : List Process) (s : State L)
      → (with_changes (birth_changes {L = L} q k i os) s).condition ≡ after_births set.program q k i os s.condition
  born_condition q k i [] s = refl
  born_condition q k i (o ∷ os) s =
      born_condition q k (suc i) os (with_change {L = L} (Becomes ((k, i) ∷ q) (Works o)) s)

  pub born_forks : (q : Name) (k i : ℕ) (os : List Process) (s : State L)
      → (with_changes (birth_changes {L = L} q k i os) s).forks ≡ s.forks
  born_forks q k i [] s = refl
  born_forks q k i (o ∷ os) s = born_forks q k (suc i) os (with_change {L = L} (Becomes ((k, i) ∷ q) (Works o)) s)

  -- the invariant after a step, with more rights
  pub record NextRights (W R : Name → Loc → Type 0) (m : State L) : Type 1 where
    pub W' : Name → Loc → Type 0
    pub R' : Name → Loc → Type 0
    pub inv : Inv set.program W' R' m.condition m.forks
    pub grow_w : (q : Name) (l : Loc) → OwnOrGiven W q l → OwnOrGiven W' q l
    pub grow_r : (q : Name) (l : Loc) → OwnOrGiven R q l → OwnOrGiven R' q l

  module _ (W R : Name → Loc → Type 0) (s : State L) (inv : Inv set.program W R s.condition s.forks) (q : Name)
      (pr : Process) (k : Keeps_to set.program W R s.forks q pr) (known : IsForkedName set.program s.forks q) where
    as_it_is : (m : State L) → Inv set.program W R m.condition m.forks → NextRights W R m
    as_it_is m i = record { W' = W; R' = R; inv = i; grow_w = λ q l h. h; grow_r = λ q l h. h }

    abbrev IsFairStep : Action → List Frame → Type 0
    IsFairStep d fs = Fair set.program (OwnOrGiven W q) (OwnOrGiven R q) k.last d fs

    after_it : (x : Condition Process LocationContent Address) → ConditionInRights set.program W R s.forks q x
        → Inv set.program W R (at_key same_name q x s.condition) s.forks
    after_it x h = becomes set.program W R s.condition s.forks q x inv known h

    next_is : (w : Identity) (o : LocalState) (todo : List Item) → w.name ≡ q → w.forks ≡ s.forks q
        → Fit set.program (OwnOrGiven W q) (OwnOrGiven R q) k.last o.frames todo
        → Keeps_to set.program W R s.forks q (record { todo = todo; who = w; own = o })
    next_is w o todo n f h = record { named = n; forked = f; last = k.last; fit = h }

    or_fault : (x : Option Fault) (out : ActOutcome L) → NextRights W R (result_of s q out)
        → NextRights W R (result_of s q (fault_or x out))
    or_fault None out n = n
    or_fault (Some f) out n = as_it_is (with_change {L = L} (Faults q f) s) inv

    moved : (next : Process) (ws : List (Loc × LocationContent)) (t : State L)
        → t.condition ≡ at_key same_name q (Works next) s.condition → t.forks ≡ s.forks
        → Keeps_to set.program W R s.forks q next → NextRights W R (with_changes (write_changes {L = L} ws) t)
    moved next ws t c f h = as_it_is (with_changes (write_changes {L = L} ws) t)
        (subst (λ (z : (Name → Condition Process LocationContent Address) × (Name → ℕ)). Inv set.program W R z.0 z.1)
        (λ i. ((sym c ∙ sym (puts_condition L ws t)) i, (sym f ∙ sym (puts_forks L ws t)) i)) (after_it (Works next) h))

    offering : (o : OfferOf L) → Keeps_to set.program W R s.forks q o.next
        → MayTake set.program (OwnOrGiven W q) (OwnOrGiven R q) o.payload → (z : Option Name)
        → NextRights W R (result_of s q (offer_outcome {L = L} s q o z))
    offering o h t None = as_it_is _ (after_it (Waits o) (h, t))
    offering o h t (Some z) = meets_keep (s.condition z) refl
      where
        hands_keep : (w : OfferOf L) → s.condition z ≡ Waits w → (m : Option (Address × LocationContent))
            → NextRights W R (result_of s q (handover_outcome {L = L} s q o z w m))
        hands_keep w e None = as_it_is _ inv
        hands_keep w e (Some m) = kinds (o.kind == w.kind)
          where
            waits : Keeps_to set.program W R s.forks z w.next
            waits = (subst (λ c. ConditionInRights set.program W R s.forks z c) e (inv.holds z)).0

            there : IsForkedName set.program s.forks z
            there = known_if set.program W R s.condition s.forks inv z
                (λ a. let x : Waits w ≡ Absent = sym e ∙ a in absurd (cc x))

            kinds : (b : Bool) → NextRights W R (result_of s q
                (if b then Advances (Becomes q (Works o.next) ∷ Becomes z (Works w.next) ∷ Pends o.channel None
                ∷ WritesLocation (L.place m.0) (L.put m.0 (s.store (L.place m.0)) m.1)
                ∷ AddsTotals (record { processes = 0; channels = 0; entries = 1 }) ∷ []) else Faulty fault.F7))
            kinds true = as_it_is _ (becomes set.program W R (at_key same_name q (Works o.next) s.condition) s.forks z
                (Works w.next) (after_it (Works o.next) h) there waits)
            kinds false = as_it_is _ inv

        meets_keep : (c : ConditionOf L) → s.condition z ≡ c
            → NextRights W R (result_of s q (meeting_outcome {L = L} s q o z c))
        meets_keep (Waits w) e = hands_keep w e (message o.payload w.payload)
        meets_keep _ _ = as_it_is _ inv

    acts_keep : (r : WorkOutcome Action) → Result (λ d o. IsFairStep d o.frames) r → (ws : List (Loc × LocationContent))
        → NextRights W R (result_of s q (act_outcome {L = L} s q (act_of pr.who r ws)))
    acts_keep (Computed (Stepped todo) o) h ws = moved (record { todo = todo; who = pr.who; own = o }) ws _ refl refl
        (next_is pr.who o todo k.named k.forked h)
    acts_keep (Computed (Ticked todo) o) h ws = moved (record { todo = todo; who = pr.who; own = o }) ws _ refl refl
        (next_is pr.who o todo k.named k.forked h)
    acts_keep (Computed (Opened todo) o) h ws = moved
        (record { todo = todo; who = record pr.who { opens = pr.who.opens + 1 }; own = o }) ws _ refl refl
        (next_is (record pr.who { opens = pr.who.opens + 1 }) o todo k.named k.forked h)
    acts_keep (Computed (Forks_it bs todo) o) h ws = record {
      W' = writes_after set.program W R q (s.forks q) o.frames h.0;
      R' = reads_after set.program W R q (s.forks q) o.frames h.0;
      inv = subst (λ (z : (Name → Condition Process LocationContent Address) × (Name → ℕ)). Inv set.program
          (writes_after set.program W R q (s.forks q) o.frames h.0)
          (reads_after set.program W R q (s.forks q) o.frames h.0) z.0 z.1)
          (λ i. (
            sym (born_condition q (s.forks q) 0 (new_processes pr.who o 0 bs) joined) i,
            sym (born_forks q (s.forks q) 0 (new_processes pr.who o 0 bs) joined) i,
          ))
          (forks_keep set.program W R s.condition s.forks inv q known pr.who o k.named k.forked next k.named
          (ap (λ n. n + 1) k.forked) k.last h.2 h.0 bs h.1 h.2.linked (length (new_processes pr.who o 0 bs)));
      grow_w = λ r l x. all_writes set.program W R q (s.forks q) o.frames h.0 inv.fair unknown r l x;
      grow_r = λ r l x. all_reads set.program W R q (s.forks q) o.frames h.0 inv.fair unknown r l x;
    }
      where
        next : Process
        next = record { todo = todo; who = record pr.who { forks = pr.who.forks + 1 }; own = o }

        unknown : (i : ℕ) (l : Loc) → R ((s.forks q, i) ∷ q) l → ⊥
        unknown i l x = inv.unknown q (s.forks q) i l (omega arith) x

        joined : State L
        joined = with_change {L = L} (AddsTotals (record
            { processes = length (new_processes pr.who o 0 bs); channels = 0; entries = 1 }))
            (with_change {L = L} (Forked q) (with_change {L = L}
            (Becomes q (Joins (s.forks q) (length (new_processes pr.who o 0 bs)) next)) s))
    acts_keep (Computed (Offered c i g todo) o) h ws =
        offering (record { channel = c; kind = i; payload = g; next = record { todo = todo; who = pr.who; own = o } })
        (next_is pr.who o todo k.named k.forked h.1) h.0 (s.pending c)
    acts_keep (Computed actions.Ended o) h ws = as_it_is _ (after_it Ended tt)
    acts_keep (EndsInFault f) h ws = as_it_is _ inv
    acts_keep IllFormed h ws = as_it_is _ inv
    acts_keep OutOfFuel h ws = as_it_is _ inv

  -- one step's accesses, and the step
  module _ (W R : Name → Loc → Type 0) (s : State L) (inv : Inv set.program W R s.condition s.forks) (q : Name)
      (pr : Process) (k : Keeps_to set.program W R s.forks q pr) (known : IsForkedName set.program s.forks q) where
    own_write : (n x : ℕ) → OwnOrGiven W q (Cell q n x)
    own_write n x = inl refl

    reads_all : (l : Loc) → OwnOrGiven W q l → OwnOrGiven R q l
    reads_all l (inl h) = inl h
    reads_all l (inr h) = inr (inv.fair.reads q l h)

    within : StaysWithin (OwnOrGiven W q) (OwnOrGiven R q)
        (λ d o. Fair set.program (OwnOrGiven W q) (OwnOrGiven R q) k.last d o.frames) (action_of set pr)
    within = (next_action_from set q (OwnOrGiven W q) (OwnOrGiven R q) own_write reads_all free (fuel_of set pr.own)
        k.last pr.own.frames
        pr.todo k.fit).proof pr.who pr.own k.named refl

    abbrev came : WorkOutcome Action
    came = (run_tree same_loc (action_of set pr) s.store).0

    abbrev writes : List (Loc × LocationContent)
    writes = tree_writes same_loc (act_tree set pr) s.store

    pub next_act : L.next pr s.store ≡ act_of pr.who came writes
    next_act = ap (λ (x : (List (Loc × LocationContent) → ActOf L) × (Loc → LocationContent)). x.0 writes)
        (answer_then loc_test (action_of set pr) (λ r. Leaf (act_of pr.who r)) s.store)

    abbrev good : Result (λ d o. Fair set.program (OwnOrGiven W q) (OwnOrGiven R q) k.last d o.frames) came
    good = result_within (OwnOrGiven W q) (OwnOrGiven R q)
        (λ d o. Fair set.program (OwnOrGiven W q) (OwnOrGiven R q) k.last d o.frames)
        (act_of pr.who) (action_of set pr) s.store within

    pub step_keeps : NextRights W R (result_of s q
        (fault_or (limit_fault totals s.totals (cost (L.next pr s.store))) (act_outcome s q (L.next pr s.store))))
    step_keeps = subst (λ (a : ActOf L). NextRights W R
        (result_of s q (fault_or (limit_fault totals s.totals (cost a)) (act_outcome s q a)))) (sym next_act)
        (or_fault W R s inv q pr k known (limit_fault totals s.totals (cost (act_of pr.who came writes)))
        (act_outcome {L = L} s q (act_of pr.who came writes)) (acts_keep W R s inv q pr k known came good writes))

    assigned : (r : WorkOutcome Action) (ws : List (Loc × LocationContent)) (l : Loc) → Assigns (act_of pr.who r ws) l
        → IsWrittenIn ws l
    assigned (Computed (Stepped todo) o) ws l h = h
    assigned (Computed (Ticked todo) o) ws l h = h
    assigned (Computed (Opened todo) o) ws l h = h
    assigned _ _ _ h = absurd h

    abbrev TakesWell : Name → ActOf L → Type 0
    TakesWell r (Offering o) = MayTake set.program (OwnOrGiven W r) (OwnOrGiven R r) o.payload
    TakesWell _ _ = Unit {0}

    takes_well : (r : WorkOutcome Action) (ws : List (Loc × LocationContent))
        → Result (λ d o. Fair set.program (OwnOrGiven W q) (OwnOrGiven R q) k.last d o.frames) r
        → TakesWell q (act_of pr.who r ws)
    takes_well (Computed (Stepped todo) o) ws h = tt
    takes_well (Computed (Ticked todo) o) ws h = tt
    takes_well (Computed (Opened todo) o) ws h = tt
    takes_well (Computed (Forks_it bs todo) o) ws h = tt
    takes_well (Computed (Offered c i g todo) o) ws h = h.0
    takes_well (Computed actions.Ended o) ws h = tt
    takes_well (EndsInFault f) ws h = tt
    takes_well IllFormed ws h = tt
    takes_well OutOfFuel ws h = tt

    received : (who other : Name) (g h : Payload LocationContent Address) (x : Address × LocationContent)
        → message g h ≡ Some x
        → MayTake set.program (OwnOrGiven W q) (OwnOrGiven R q) g
        → MayTake set.program (OwnOrGiven W other) (OwnOrGiven R other) h
        → who ≡ receiver g q other → OwnOrGiven W who x.0.spot
    received who other (Message v) (Takes t) x e a b n =
        subst (λ z. OwnOrGiven W z x.0.spot) (sym n)
        (subst (λ (y : Address × LocationContent). OwnOrGiven W other y.0.spot) (same_Some (t, v) x e) b)
    received who other (Takes t) (Message v) x e a b n =
        subst (λ z. OwnOrGiven W z x.0.spot) (sym n)
        (subst (λ (y : Address × LocationContent). OwnOrGiven W q y.0.spot) (same_Some (t, v) x e) a)
    received who other (Message v) (Message w) x e a b n = absurd (cc e)
    received who other (Takes t) (Takes u) x e a b n = absurd (cc e)

    pub gets_right : (who : Name) (l : Loc) → Receiving s q (L.next pr s.store) who l → OwnOrGiven W who l
    gets_right who l g = subst (λ z. OwnOrGiven W who z) g.goes.there
        (received who g.goes.partner g.offer.payload g.goes.its.payload g.goes.passes g.goes.message_is
        (subst (λ (a : ActOf L). TakesWell q a) (sym next_act ∙ g.offer_is) (takes_well came writes good))
        (subst (λ (c : ConditionOf L). ConditionInRights set.program W R s.forks g.goes.partner c) g.goes.waits
        (inv.holds g.goes.partner)).1 g.who_is)

    pub writes_right : (who : Name) (l : Loc) → WritesIn s q pr who l → OwnOrGiven W who l
    writes_right who l (inl h) = subst (λ z. OwnOrGiven W z l) (sym h.0)
        (written (OwnOrGiven W q) (OwnOrGiven R q)
        (λ d o. Fair set.program (OwnOrGiven W q) (OwnOrGiven R q) k.last d o.frames) (act_of pr.who)
        (action_of set pr) s.store within l
        (assigned came writes l (subst (λ (a : ActOf L). Assigns a l) next_act h.1)))
    writes_right who l (inr g) = gets_right who l g

    pub accesses_right : (who : Name) (l : Loc) → AccessesIn s q pr who l → OwnOrGiven R who l
    accesses_right who l (inl h) = subst (λ z. OwnOrGiven R z l) (sym h.0)
        (asked (OwnOrGiven W q) (OwnOrGiven R q)
        (λ d o. Fair set.program (OwnOrGiven W q) (OwnOrGiven R q) k.last d o.frames) (act_of pr.who)
        reads_all (action_of set pr) s.store within l h.1)
    accesses_right who l (inr h) = all_read who l (writes_right who l h)
      where
        all_read : (who : Name) (l : Loc) → OwnOrGiven W who l → OwnOrGiven R who l
        all_read who l (inl h) = inl h
        all_read who l (inr h) = inr (inv.fair.reads who l h)

  -- who can step keeps to its rights
  pub works_well : (W R : Name → Loc → Type 0) (s : State L) → Inv set.program W R s.condition s.forks
      → (q : Name) (pr : Process) → own_part_in s.condition q (s.condition q) ≡ Some pr
      → Keeps_to set.program W R s.forks q pr × IsForkedName set.program s.forks q
  works_well W R s inv q pr e = go (s.condition q) refl e
    where
      known : (c : ConditionOf L) → s.condition q ≡ c → (c ≡ Absent → ⊥) → IsForkedName set.program s.forks q
      known c e n = known_if set.program W R s.condition s.forks inv q (λ a. n (sym e ∙ a))

      at : (c : ConditionOf L) → s.condition q ≡ c → ConditionInRights set.program W R s.forks q c
      at c e = subst (λ z. ConditionInRights set.program W R s.forks q z) e (inv.holds q)

      joined : (n m : ℕ) (own : Process) → s.condition q ≡ Joins n m own → (b : Bool)
          → (if b then Some own else None) ≡ Some pr → Keeps_to set.program W R s.forks q pr
          × IsForkedName set.program s.forks q
      joined n m own c true e = (
        subst (λ z. Keeps_to set.program W R s.forks q z) (same_Some own pr e)
            (at (Joins n m own) c),
        known (Joins n m own) c (λ a. absurd (cc a)),
      )
      joined n m own c false e = absurd (cc e)

      go : (c : ConditionOf L) → s.condition q ≡ c → own_part_in s.condition q c ≡ Some pr
          → Keeps_to set.program W R s.forks q pr × IsForkedName set.program s.forks q
      go Absent c e = absurd (cc e)
      go (Works own) c e = (
        subst (λ z. Keeps_to set.program W R s.forks q z) (same_Some own pr e) (at (Works own) c),
        known (Works own) c (λ a. absurd (cc a)),
      )
      go (Waits o) c e = absurd (cc e)
      go (Joins n m own) c e = joined n m own c (all_ended s.condition q n m) e
      go Ended c e = absurd (cc e)

  -- rights that hold along a whole schedule
  record Tracked (W R : Name → Loc → Type 0) (s : State L) (ps : List Name) : Type 1 where
    pub W' : Name → Loc → Type 0
    pub R' : Name → Loc → Type 0
    fair : Fair_rights W' R'
    grow_w : (q : Name) (l : Loc) → OwnOrGiven W q l → OwnOrGiven W' q l
    grow_r : (q : Name) (l : Loc) → OwnOrGiven R q l → OwnOrGiven R' q l
    writes : (a : Name) (l : Loc) → Happens totals (λ u r own. WritesIn u r own a l) s ps → OwnOrGiven W' a l
    accesses : (a : Name) (l : Loc) → Happens totals (λ u r own. AccessesIn u r own a l) s ps → OwnOrGiven R' a l

  tracked : (W R : Name → Loc → Type 0) (s : State L) (ps : List Name) (t : State L)
      → Inv set.program W R s.condition s.forks → ScheduleLeads (process_system L totals) s ps t → Tracked W R s ps
  tracked W R s [] t inv h = record {
    W' = W;
    R' = R;
    fair = inv.fair;
    grow_w = λ q l x. x;
    grow_r = λ q l x. x;
    writes = λ a l x. absurd x;
    accesses = λ a l x. absurd x;
  }
  tracked W R s (q ∷ ps) t inv (next, _, steps, leads) = go (λ W1 R1 i. tracked W1 R1 next ps t i leads)
      (own_part_in s.condition q (s.condition q)) refl steps
    where
      here_w : (a : Name) (l : Loc) (pr : Process) → own_part_in s.condition q (s.condition q) ≡ Some pr
          → WritesIn s q pr a l → OwnOrGiven W a l
      here_w a l pr e w = let k = works_well W R s inv q pr e in writes_right W R s inv q pr k.0 k.1 a l w

      here_r : (a : Name) (l : Loc) (pr : Process) → own_part_in s.condition q (s.condition q) ≡ Some pr
          → AccessesIn s q pr a l → OwnOrGiven R a l
      here_r a l pr e w = let k = works_well W R s inv q pr e in accesses_right W R s inv q pr k.0 k.1 a l w

      later : (it : State L → Name → Process → Type 0) (m : State L) → step totals s q ≡ Some m → Happens totals it m ps
          → Happens totals it next ps
      later it m e x = subst (λ z. Happens totals it z ps) (same_Some m next (sym e ∙ steps)) x

      both : (W1 R1 : Name → Loc → Type 0) → ((r : Name) (l : Loc) → OwnOrGiven W r l → OwnOrGiven W1 r l)
          → ((r : Name) (l : Loc) → OwnOrGiven R r l → OwnOrGiven R1 r l) → Tracked W1 R1 next ps
          → Tracked W R s (q ∷ ps)
      both W1 R1 gw gr k = record {
        W' = k.W';
        R' = k.R';
        fair = k.fair;
        grow_w = λ r l x. k.grow_w r l (gw r l x);
        grow_r = λ r l x. k.grow_r r l (gr r l x);
        writes = λ a l x. ⊎_elim (λ (y : (own : Process) × (own_part_in s.condition q (s.condition q) ≡ Some own)
            × WritesIn s q own a l). k.grow_w a l (gw a l (here_w a l y.0 y.1 y.2)))
            (λ (y : (m : State L) × (step totals s q ≡ Some m) × Happens totals (λ u r own. WritesIn u r own a l) m ps).
            k.writes a l (later (λ u r own. WritesIn u r own a l) y.0 y.1 y.2)) x;
        accesses = λ a l x. ⊎_elim (λ (y : (own : Process) × (own_part_in s.condition q (s.condition q) ≡ Some own)
            × AccessesIn s q own a l). k.grow_r a l (gr a l (here_r a l y.0 y.1 y.2)))
            (λ (y : (m : State L) × (step totals s q ≡ Some m) × Happens totals (λ u r own. AccessesIn u r own a l) m
            ps). k.accesses a l (later (λ u r own. AccessesIn u r own a l) y.0 y.1 y.2)) x;
      }

      go : ((W1 R1 : Name → Loc → Type 0) → Inv set.program W1 R1 next.condition next.forks → Tracked W1 R1 next ps)
          → (x : Option Process) → own_part_in s.condition q (s.condition q) ≡ x → step_with totals s q x ≡ Some next
          → Tracked W R s (q ∷ ps)
      go ih None e d = absurd (none-some _ d)
      go ih (Some pr) e d =
          let k = works_well W R s inv q pr e in
          let n : NextRights W R (result_of s q (fault_or (limit_fault totals s.totals (cost (L.next pr s.store)))
          (act_outcome s q (L.next pr s.store)))) = step_keeps W R s inv q pr k.0 k.1 in
          let i : Inv set.program n.W' n.R' next.condition next.forks =
          subst (λ (z : State L). Inv set.program n.W' n.R' z.condition z.forks) (same_Some _ next d) n.inv in
          both n.W' n.R' n.grow_w n.grow_r (ih n.W' n.R' i)

  -- from a state with the invariant on, no process writes what a parallel one uses
  pub disjoint_from : (W R : Name → Loc → Type 0) (s : State L) → Inv set.program W R s.condition s.forks
      → IsDisjoint L totals s
  disjoint_from W R s inv ps t leads a b parallel l w x = let k = tracked W R s ps t inv leads in
      parallel_apart k.W' k.R' k.fair a b parallel l (k.writes a l w) (k.accesses b l x)
