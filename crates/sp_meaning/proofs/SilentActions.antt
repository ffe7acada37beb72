-- What a step that forks, offers, ends or fails leaves as it was, where expressions are pure. An expression writes
-- nothing but cells of frames that calls made, and that are gone when it has its value. So a step that forks, offers
-- or ends, whose writes the meaning leaves out, wrote nothing that is still there; and one that fails wrote nothing
-- to the output.
use Rattle.std.proofs.Common.{◌≡◌, ◌⊎◌, inl, inr, ⊎_elim, ℕ, ◌≤◌, List, [], ◌∷◌, length, Option, Some, None, Bool, true}
use Rattle.std.proofs.Common.{false, if◌then◌else◌, cond, refl, sym, ap, ◌∙◌, subst, arith}
use Rattle.std.specs.Prelude.{ℤ, pos, ◌+ℤ◌, ◌-ℤ◌, nat_abs, nat_lt, int_le, int_lt, slice_get, ◌+◌, ◌++◌}
use Rattle.sp_base.specs.declared.fault.Fault.{Fault}
use Rattle.sp_base.specs.declared.fault.Fault.TheVariants as fault
use Rattle.sp_tree.specs.Plain.{Expr, Typed, Var, Entire, ByValue, ByReference, Actuals, Nothing, Pass, Program, Block}
use Rattle.sp_tree.specs.Plain.{Stmt, Empty, Assign, Call, Sequence, If, IfElse, While, Repeat, For, Case, Parallel}
use Rattle.sp_tree.specs.Plain.{Forall, Assume, ReadValue, ReadLine, WriteValue, WriteText, WriteLine, Open, Send}
use Rattle.sp_tree.specs.Plain.{Receive, Stmts, No, And, On, Arms, NoArm, Or}
use Rattle.sp_tree.specs.Cells.{variables_of}
use Rattle.sp_tree.specs.Uses.{Use, Target, Seen, CallOf, ParallelOf, ForallOf, Stop, In_expr, In_selectors, In_stmt}
use Rattle.sp_tree.specs.Uses.{In_actuals, In_target, In_width}
use Rattle.sp_tree.specs.Sets.{Reach}
use Rattle.sp_tree.specs.Interference.{IsFreeOfInterference}
use Rattle.sp_meaning.specs.Maps.{at_key}
use Rattle.sp_meaning.specs.Model.{Name, Channel, Payload, Message, Takes}
use Rattle.sp_meaning.specs.EffectTree.{EffectTree, Leaf, ReadThen, WriteThen, run_tree}
use Rattle.sp_meaning.specs.Values.{Value, Ordinal, Chan}
use Rattle.sp_meaning.specs.LocalWork.{RunInput, Loc, Cell, Input, Output, LocationContent, Tree, Written, Address}
use Rattle.sp_meaning.specs.LocalWork.{Frame, LocalState, Identity}
use Rattle.sp_meaning.specs.LocalWork.{Process, Item, Do, First, Again, Test, Leave, Break, WorkOutcome, Computed}
use Rattle.sp_meaning.specs.LocalWork.{EndsInFault, IllFormed, OutOfFuel, Work}
use Rattle.sp_meaning.specs.LocalWork.{bind, give, fail, who, set_local_state, write_location, tick, assign}
use Rattle.sp_meaning.specs.LocalWork.{content_with, same_loc, bytes_in}
use Rattle.sp_meaning.specs.LocalWork.{is_block}
use Rattle.sp_meaning.specs.Texts.{ReadResult, ReadItem as Took, ReadFault as Refuses_it, line_length}
use Rattle.sp_meaning.specs.Eval.{Place, AtAddress, Fixed, ArgumentValue, Calls, value, place, actuals, ordinal_of}
use Rattle.sp_meaning.specs.Eval.{place_of}
use Rattle.sp_meaning.specs.Eval.{address_of, address}
use Rattle.sp_meaning.specs.Actions.{Birth, Action, Stepped, Ticked, Opened, Forked, Offered, Ended, push, push_all}
use Rattle.sp_meaning.specs.Actions.{children, indexed_children, has_constant, arm_for, is_range, goes_on, next_value}
use Rattle.sp_meaning.specs.Actions.{enter}
use Rattle.sp_meaning.specs.Actions.{pushed_frame, references, lay, copy_in, write, advance, take_in, width, peek}
use Rattle.sp_meaning.specs.Actions.{turn_of, fork, arm_action, statement_action, item_action, settle, call_by}
use Rattle.sp_meaning.specs.Actions.{run_items, action_by, next_action}
use Rattle.sp_meaning.specs.Actions.{size_of_frame, reading_by, ordinal_text}
use Rattle.sp_meaning.specs.Rights.{Linked, cell_of, location_at, location_by, location_of, frame_found, Right, Sound}
use Rattle.sp_meaning.specs.Rights.{Fit}
use Rattle.sp_meaning.specs.Run.{Store, run}
use Rattle.sp_meaning.specs.SuperPascal.{action_of, fuel_of}
use Rattle.sp_meaning.proofs.ActionRights.{From, after, gives, call_keeps, all_keep, tick_stays, deepen_stays}
use Rattle.sp_meaning.proofs.ActionRights.{widen_stays}
use Rattle.sp_meaning.proofs.ActionRights.{enclosing_keeps, lay_stays, copy_stays, in_width_stays}
use Rattle.sp_meaning.proofs.Instance.{loc_test}
use Rattle.sp_meaning.proofs.Pure.{AreFunctionsPure, IsLocal, PureExpr, PureVar, PureActuals, PureWidth, PureStmt}
use Rattle.sp_meaning.proofs.Pure.{PureStmts, PureArms, PureItems, AreBlocksPure, PureUse, expr_uses, selectors_uses}
use Rattle.sp_meaning.proofs.Pure.{no_target}
use Rattle.sp_meaning.proofs.RightsInvariant.{Result, result_within}
use Rattle.sp_meaning.proofs.Run.{then_run, run_bind}
use Rattle.sp_meaning.proofs.Within.{StaysWithin, KeepsRights, Any, IsComponentOf, part, variable_of, selectors_of}
use Rattle.sp_meaning.proofs.Within.{CallsKeep, then_keeps}
use Rattle.sp_meaning.proofs.Within.{give_keeps, fetch_stays, or_lost_keeps, or_lost_stays, kind_stays, ordinal_stays}
use Rattle.sp_meaning.proofs.Within.{channel_stays, left_stays, read_stays, MayRead, value_stays, place_keeps}
use Rattle.sp_meaning.proofs.Within.{place_of_keeps, address_of_keeps, ordinal_of_stays}

-- a cell of a frame that is not there any more
abbrev pub IsDead : ℕ → Loc → Type 0
IsDead n (Cell r h x) = n ≤ h
IsDead n Input = ⊥
IsDead n Output = ⊥

-- all that is there is as it was; n: how many frames there are
abbrev pub IsSame : ℕ → Store → Store → Type 0
IsSame n s m = (l : Loc) → (s l ≡ m l) ⊎ IsDead n l

-- a step that forks, offers or ends
abbrev pub IsStop : Action → Type 0
IsStop (Stepped todo) = ⊥
IsStop (Ticked todo) = ⊥
IsStop (Opened todo) = ⊥
IsStop (Forked bs todo) = Unit {0}
IsStop (Offered c k x todo) = Unit {0}
IsStop Ended = Unit {0}

-- a step that opens a channel
abbrev pub IsOpening : Action → Type 0
IsOpening (Opened todo) = Unit {0}
IsOpening _ = ⊥

-- of all that is there one variable at most has another value
pub record IsSameButOne (n : ℕ) (s m : Store) : Type 0 where
  pub location : Loc
  pub value : Value
  pub now : m location ≡ Tree value
  pub others : (l : Loc) → (s l ≡ m l) ⊎ (IsDead n l ⊎ (location ≡ l))

same_on : (n : ℕ) (s t u : Store) → IsSame n s t → IsSame n t u → IsSame n s u
same_on n s t u a b l = ⊎_elim (λ (e : s l ≡ t l). ⊎_elim (λ (f : t l ≡ u l). inl (e ∙ f)) (λ d. inr d) (b l))
    (λ d. inr d) (a l)

output_same : (n : ℕ) (s m : Store) → IsSame n s m → s Output ≡ m Output
output_same n s m h = ⊎_elim (λ (e : s Output ≡ m Output). e) (λ d. absurd d) (h Output)

-- what writes within W leaves all else as it was
stored : {A : Type 0} (W R : Loc → Type 0) (F : A → LocalState → Type 0)
    (t : EffectTree Loc LocationContent (WorkOutcome A)) (m : Store)
    → StaysWithin W R F t → (l : Loc) → (m l ≡ (run_tree same_loc t m).1 l) ⊎ W l
stored W R F (Leaf a) m h l = inl refl
stored W R F (ReadThen k more) m h l = stored W R F (more (m k)) m (h.1 (m k)) l
stored W R F (WriteThen k v more) m h l = ⊎_elim (λ
    (e : at_key same_loc k v m l ≡ (run_tree same_loc more (at_key same_loc k v m)).1 l). go e (same_loc k l) refl)
    (λ w. inr w) (stored W R F more (at_key same_loc k v m) h.1 l)
  where
    go : at_key same_loc k v m l ≡ (run_tree same_loc more (at_key same_loc k v m)).1 l → (b : Bool) → same_loc k l ≡ b
        → (m l ≡ (run_tree same_loc more (at_key same_loc k v m)).1 l) ⊎ W l
    go e true f = inr (subst W ((loc_test k l).0 f) h.0)
    go e false f = inl (ap (λ b. cond b v (m l)) (sym f) ∙ e)

abbrev pub AnyLocation : Loc → Type 0
AnyLocation l = Unit {0}

abbrev IsCell : Loc → Type 0
IsCell (Cell r h x) = Unit {0}
IsCell Input = ⊥
IsCell Output = ⊥

cell_is : (x : ℕ) (f : Option Frame) (l : Loc) → cell_of x f ≡ Some l → IsCell l
cell_is x None l e = absurd (cc e)
cell_is x (Some f) l e = let h : Cell f.owner f.number x ≡ l = cc e in subst IsCell h tt

module _ (p : Program) where
  mutual
    push_pure : (s : Stmt) (todo : List Item) → PureStmt p s → PureItems p todo → PureItems p (push s todo)
    push_pure Empty todo h k = k
    push_pure (Sequence ss) todo h k = push_all_pure ss todo h k
    push_pure _ _ h k = (h, k)

    push_all_pure : (ss : Stmts) (todo : List Item) → PureStmts p ss → PureItems p todo → PureItems p (push_all ss todo)
    push_all_pure No todo h k = k
    push_all_pure (And s rest) todo h k = push_pure s (push_all rest todo) h.0 (push_all_pure rest todo h.1 k)

  abbrev PureArm : Option Stmt → Type 0
  PureArm None = Unit {0}
  PureArm (Some s) = PureStmt p s

  arm_pure : (n : ℤ) (arms : Arms) → PureArms p arms → PureArm (arm_for n arms)
  arm_pure n NoArm h = tt
  arm_pure n (Or (On ms s) rest) h = go (has_constant n ms) (arm_pure n rest h.1)
    where
      go : (b : Bool) → PureArm (arm_for n rest) → PureArm (if b then Some s else arm_for n rest)
      go true ih = h.0
      go false ih = ih

  abbrev IsPureAction : Action → Type 0
  IsPureAction (Stepped todo) = PureItems p todo
  IsPureAction (Ticked todo) = PureItems p todo
  IsPureAction (Opened todo) = PureItems p todo
  IsPureAction (Forked bs todo) = PureItems p todo
  IsPureAction (Offered c k x todo) = PureItems p todo
  IsPureAction Ended = Unit {0}

module _ (set : RunInput) (free : IsFreeOfInterference set.program) (pure : AreFunctionsPure set.program)
    (blocks : AreBlocksPure set.program) (q : Name) (W R : Loc → Type 0) (fs : List Frame) (linked : Linked fs) where
  abbrev p : Program
  p = set.program

  -- what it may write here: cells of frames above the newest
  abbrev New : Loc → Type 0
  New l = IsDead (length fs) l

  -- a computation that keeps to this
  abbrev LeavesFrames : {A : Type 0} → (A → Type 0) → Store → WorkOutcome A × Store → Type 0
  LeavesFrames F s (Computed a o, m) = (o.frames ≡ fs) × F a × IsSame (length fs) s m
  LeavesFrames F s (EndsInFault f, m) = IsSame (length fs) s m
  LeavesFrames F s (IllFormed, m) = Unit {0}
  LeavesFrames F s (OutOfFuel, m) = Unit {0}

  abbrev IsSilentWork : {A : Type 0} → (A → Type 0) → Work A → Type 0
  IsSilentWork F h = KeepsRights q New AnyLocation fs F h

  calm : {A : Type 0} {F : A → Type 0} (h : Work A) → IsSilentWork F h → (w : Identity) (o : LocalState) (s : Store)
      → w.name ≡ q
      → o.frames ≡ fs → LeavesFrames F s (run h w o s)
  calm {A} {F} h k w o s n e = go (run h w o s) (λ l. stored New AnyLocation G (h w o) s (k.proof w o n e) l)
      (result_within New AnyLocation G (λ r. r) (h w o) s (k.proof w o n e))
    where
      G : A → LocalState → Type 0
      G a o1 = (o1.frames ≡ fs) × F a

      go : (r : WorkOutcome A × Store) → IsSame (length fs) s r.1 → Result G r.0 → LeavesFrames F s r
      go (Computed a o1, m) i g = (g.0, g.1, i)
      go (EndsInFault f, m) i g = i
      go (IllFormed, m) i g = tt
      go (OutOfFuel, m) i g = tt

  -- what is told of a step
  abbrev SilentStep : Store → WorkOutcome Action × Store → Type 0
  SilentStep s (Computed d o, m) = IsPureAction p d × (IsStop d → (o.frames ≡ fs) × IsSame (length fs) s m)
      × (IsOpening d → IsSameButOne (length fs) s m)
  SilentStep s (EndsInFault f, m) = s Output ≡ m Output
  SilentStep s (IllFormed, m) = Unit {0}
  SilentStep s (OutOfFuel, m) = Unit {0}

  record StepIsSilent (h : Work Action) : Type 0 where
    proof : (w : Identity) (o : LocalState) (s : Store) → w.name ≡ q → o.frames ≡ fs → SilentStep s (run h w o s)

  told_on : (s m : Store) → IsSame (length fs) s m → (r : WorkOutcome Action × Store) → SilentStep m r → SilentStep s r
  told_on s m a (Computed d o, u) t = (
    t.0,
    λ h. (let z = t.1 h in (z.0, same_on (length fs) s m u a z.1)),
    λ h. (let z = t.2 h in record {
      location = z.location;
      value = z.value;
      now = z.now;
      others = λ l. on l z.location (a l) (z.others l);
    }),
  )
    where
      on : (l one : Loc) → (s l ≡ m l) ⊎ IsDead (length fs) l → (m l ≡ u l) ⊎ (IsDead (length fs) l ⊎ (one ≡ l))
          → (s l ≡ u l) ⊎ (IsDead (length fs) l ⊎ (one ≡ l))
      on l one (inl e) (inl f) = inl (e ∙ f)
      on l one (inr d) b = inr (inl d)
      on l one (inl e) (inr f) = inr f
  told_on s m a (EndsInFault f, u) t = output_same (length fs) s m a ∙ t
  told_on s m a (IllFormed, u) t = tt
  told_on s m a (OutOfFuel, u) t = tt

  then_tells : {A : Type 0} {F : A → Type 0} (h : Work A) (g : A → Work Action) → IsSilentWork F h
      → ((a : A) → F a → StepIsSilent (g a)) → StepIsSilent (bind h g)
  then_tells {A} {F} h g k next = record {
    proof =
        λ w o s n e. subst (SilentStep s) (sym (run_bind h g w o s)) (go w s n (run h w o s) (calm h k w o s n e));
  }
    where
      go : (w : Identity) (s : Store) → w.name ≡ q → (r : WorkOutcome A × Store) → LeavesFrames F s r
          → SilentStep s (then_run g w r)
      go w s n (Computed a o, m) c = told_on s m c.2 (run (g a) w o m) ((next a c.1).proof w o m n c.0)
      go w s n (EndsInFault f, m) c = output_same (length fs) s m c
      go w s n (IllFormed, m) c = tt
      go w s n (OutOfFuel, m) c = tt

  -- what writes cells alone, and then does something that does not stop
  cells_tell : {A : Type 0} {F : A → Type 0} (h : Work A) (g : A → Action) → From q IsCell AnyLocation fs
      (λ a gs. F a) h
      → ((a : A) → F a → IsPureAction p (g a) × ((IsStop (g a) → ⊥) × (IsOpening (g a) → ⊥)))
      → StepIsSilent (bind h (λ a. give (g a)))
  cells_tell {A} {F} h g k next = record {
    proof = λ w o s n e. subst (SilentStep s) (sym (run_bind h (λ a. give (g a)) w o s))
        (go w s (run h w o s) (λ l. stored IsCell AnyLocation G (h w o) s (k.proof w o n e) l)
        (result_within IsCell AnyLocation G (λ r. r) (h w o) s (k.proof w o n e)));
  }
    where
      G : A → LocalState → Type 0
      G a o1 = F a

      go : (w : Identity) (s : Store) (r : WorkOutcome A × Store) → ((l : Loc) → (s l ≡ r.1 l) ⊎ IsCell l)
          → Result G r.0
          → SilentStep s (then_run (λ a. give (g a)) w r)
      go w s (Computed a o, m) i f =
          let (is_pure, (no_stop, no_opening)) = next a f in
          (is_pure, λ h. absurd (no_stop h), λ h. absurd (no_opening h))
      go w s (EndsInFault x, m) i f = ⊎_elim (λ (e : s Output ≡ m Output). e) (λ d. absurd d) (i Output)
      go w s (IllFormed, m) i f = tt
      go w s (OutOfFuel, m) i f = tt

  went : (todo : List Item) → PureItems p todo → StepIsSilent (give (Stepped todo))
  went todo k = record { proof = λ w o s n e. (k, λ h. absurd h, λ h. absurd h) }

  fails : (f : Fault) → StepIsSilent (fail f)
  fails f = record { proof = λ w o s n e. refl }

  go_on : (todo : List Item) → PureItems p todo → StepIsSilent (bind (tick set.limits) (λ u. give (Ticked todo)))
  go_on todo k = then_tells (tick set.limits) _ (tick_stays set q New AnyLocation (length fs) (λ n x h. h)
      (λ l w. tt) free fs)
      (λ u _. record { proof = λ w o s n e. (k, λ h. absurd h, λ h. absurd h) })

  -- a value is assigned, and nothing fails after it
  stores : (a : Address) (v : Value) (todo : List Item) → PureItems p todo
      → StepIsSilent (bind (assign a v) (λ u. give (Stepped todo)))
  stores a v todo k = record { proof = λ w o s n e. (k, λ h. absurd h, λ h. absurd h) }

  takes : (a : Address) (t : ReadResult) (todo : List Item) → PureItems p todo
      → StepIsSilent (bind (take_in set a t) (λ u. give (Stepped todo)))
  takes a (Took n bytes) todo k = record { proof = λ w o s m e. (k, λ h. absurd h, λ h. absurd h) }
  takes a (Refuses_it f) todo k = record { proof = λ w o s m e. refl }

  skips : (n : ℕ) (todo : List Item) → PureItems p todo → StepIsSilent (bind (advance set n) (λ u. give (Stepped todo)))
  skips n todo k = record { proof = λ w o s m e. (k, λ h. absurd h, λ h. absurd h) }

  opens : (a : Address) (todo : List Item) → PureItems p todo
      → StepIsSilent (bind who (λ w. bind (assign a (Chan (record { owner = w.name; nth = w.opens })))
      (λ u. give (Opened todo))))
  opens a todo k = record {
    proof = λ w o s n e. (
      k,
      λ h. absurd h,
      λ h. one_put s (assigned_value a (s a.spot)
          (Chan (record { owner = w.name; nth = w.opens }))),
    );
  }
    where
      assigned_value : (a : Address) (v : LocationContent) (x : Value) → (y : Value)
          × (content_with a v (Tree x) ≡ Tree y)
      assigned_value a v x = (_, refl)

      one_put : (s : Store) {v : LocationContent} → (y : Value) × (v ≡ Tree y)
          → IsSameButOne (length fs) s (at_key same_loc a.spot v s)
      one_put s {v} y = record {
        location = a.spot;
        value = y.0;
        now = ap (λ b. cond b v (s a.spot)) ((loc_test a.spot a.spot).1 refl) ∙ y.1;
        others = λ l. go l (same_loc a.spot l) refl;
      }
        where
          go : (l : Loc) (b : Bool) → same_loc a.spot l ≡ b → (s l ≡ cond (same_loc a.spot l) v (s l))
              ⊎ (IsDead (length fs) l ⊎ (a.spot ≡ l))
          go l true e = inr (inr ((loc_test a.spot l).0 e))
          go l false e = inl (sym (ap (λ b. cond b v (s l)) e))

  offers : (c : Channel) (t : ℕ) (x : Payload LocationContent Address) (todo : List Item) → PureItems p todo
      → StepIsSilent (give (Offered c t x todo))
  offers c t x todo k = record { proof = λ w o s n e. (k, λ h. (e, λ l. inl refl), λ h. absurd h) }

  prints : (bs : List ℕ) (todo : List Item) → PureItems p todo
      → StepIsSilent (bind (write set bs) (λ u. give (Stepped todo)))
  prints bs todo k = record {
    proof = λ w o s n e. go w o s
        (nat_lt set.limits.output (length (bytes_in (s Output)) + length bs));
  }
    where
      go : (w : Identity) (o : LocalState) (s : Store) (b : Bool)
          → SilentStep s (run (bind
          (if b then fail fault.F16 else write_location Output (Written (bytes_in (s Output) ++ bs)))
          (λ u. give (Stepped todo))) w o s)
      go w o s true = refl
      go w o s false = (k, λ h. absurd h, λ h. absurd h)

  forks : (bs : List Birth) (todo : List Item) → PureItems p todo → StepIsSilent (fork set bs todo)
  forks bs todo k = record { proof = λ w o s n e. go w o s e (nat_lt o.depth set.limits.depth) }
    where
      go : (w : Identity) (o : LocalState) (s : Store) → o.frames ≡ fs → (b : Bool)
          → SilentStep s (run (if b then give (Forked bs todo) else fail fault.F11) w o s)
      go w o s e true = (k, λ h. (e, λ l. inl refl), λ h. absurd h)
      go w o s e false = refl

  -- the for variable is a cell, and then a tick may fail
  turns : (x : ℕ) (n limit : ℤ) (down : Bool) (s : Stmt) (todo : List Item) → IsLocal p x → PureStmt p s
      → PureItems p todo → StepIsSilent (turn_of set x n limit down s todo)
  turns x n limit down s todo lx ps k =
      then_tells (place_of set x) _ (place_of_keeps q New AnyLocation fs set x)
      (λ y e. then_tells (address_of set y) _ (address_of_keeps q New AnyLocation fs set (location_of p fs x) y e)
      (λ a d. at_cell a (cell_is x (frame_found (is_block lx.0.block) (length fs) fs) a.spot (sym local_at ∙ d))))
    where
      next : List Item
      next = push s (Again x limit down s ∷ todo)

      local_at : location_of p fs x ≡ cell_of x (frame_found (is_block lx.0.block) (length fs) fs)
      local_at = ap (location_at fs x) lx.1 ∙ ap (location_by fs x lx.0) lx.2

      counting : Bool → Work (Unit {0})
      counting b w o = if b then set_local_state (record o { ticks = o.ticks + 1 }) w o else fail fault.F10 w o

      ticks_on : (l : Loc) (v : LocationContent) → IsCell l → (w : Identity) (o : LocalState) (m : Store) (b : Bool)
          → SilentStep m (run (bind (counting b) (λ u. give (Ticked next))) w o (at_key same_loc l v m))
      ticks_on (Cell r h y) v c w o m true =
          (push_pure p s (Again x limit down s ∷ todo) ps ((lx, ps), k), λ h. absurd h, λ h. absurd h)
      ticks_on (Cell r h y) v c w o m false = refl
      ticks_on Input v c w o m b = absurd c
      ticks_on Output v c w o m b = absurd c

      at_cell : (a : Address) → IsCell a.spot
          → StepIsSilent (bind (assign a (Ordinal n)) (λ u. bind (tick set.limits) (λ u. give (Ticked next))))
      at_cell a c = record { proof = λ w o m _ e. ticks_on a.spot _ c w o m (nat_lt o.ticks set.limits.ticks) }

  -- what stands here is sound with these rights where it has no target
  sound_here : {Here : Use → Type 0} → Sound p W R fs Here → ((u : Use) → Here u → PureUse p u)
      → Sound p New AnyLocation fs Here
  sound_here {Here} so uses = record { allowed = λ bs u r x l t. right bs u l r; apart = so.apart; kept = so.kept }
    where
      right : (bs : List ℕ) (u : Use) (l : Loc) → Reach p Here bs u → Right p New AnyLocation u l
      right bs (Target y) l r = absurd (no_target p pure uses bs y r)
      right bs (Seen y) l r = tt
      right bs (CallOf f args) l r = tt
      right bs (ParallelOf ss) l r = tt
      right bs (ForallOf y s) l r = tt
      right bs Stop l r = tt

  module _ (n : ℕ) where
    abbrev calls : Calls
    calls = call_by set (run_items set n)

    -- calls of functions write in frames of their own
    ok : CallsKeep q New AnyLocation fs set free (λ l w. tt) calls
    ok = call_keeps set q New AnyLocation (length fs) (λ n x h. h) (λ l w. tt) free n
        (all_keep set q New AnyLocation (length fs) (λ n x h. h) (λ l w. tt) free n) fs (omega arith) linked

    expr : (e : Expr) → PureExpr p e → Sound p W R fs (In_expr e) → IsSilentWork Any (value set calls e)
    expr e h so = value_stays q New AnyLocation fs set free (λ l w. tt) calls ok e (sound_here so (expr_uses p e h))

    test : (e : Expr) → PureExpr p e → Sound p W R fs (In_expr e) → IsSilentWork Any (ordinal_of set calls e)
    test e h so = ordinal_of_stays q New AnyLocation fs set free
        (λ l w. tt) calls ok e (sound_here so (expr_uses p e h))

    variable : (v : Var) → PureVar p v → Sound p W R fs (In_selectors (selectors_of v))
        → IsSilentWork (IsComponentOf q New AnyLocation fs (location_of p fs (variable_of v))) (place set calls v)
    variable (Entire x ss) h so = place_keeps q New AnyLocation fs set free (λ l w. tt) calls ok (Entire x ss)
        (sound_here so (selectors_uses p ss h))

    target : (v : Var) → PureVar p v → Sound p W R fs (In_selectors (selectors_of v))
        → IsSilentWork (λ a. location_of p fs (variable_of v) ≡ Some a.spot) (address set calls v)
    target v h so = then_keeps q New AnyLocation fs _ _ (variable v h so)
        (λ z e. address_of_keeps q New AnyLocation fs set (location_of p fs (variable_of v)) z e)

    inside : (v : Var) {Above : Use → Type 0} → ((u : Use) → In_target v u → Above u) → Sound p W R fs Above
        → Sound p W R fs (In_selectors (selectors_of v))
    inside (Entire x ss) i so = part (λ u h. i u (inr h)) so

    arguments : (args : Actuals) → PureActuals p args → Sound p W R fs (In_actuals args)
        → IsSilentWork Any (actuals set calls args)
    arguments Nothing h so = give_keeps q New AnyLocation fs [] tt
    arguments (Pass (ByValue e) rest) h so =
        then_keeps q New AnyLocation fs _ _ (expr e h.0 (part (λ u. inl) so))
        (λ v _. then_keeps q New AnyLocation fs _ _ (arguments rest h.1 (part (λ u. inr) so))
        (λ gs _. give_keeps q New AnyLocation fs _ tt))
    arguments (Pass (ByReference v) rest) h so =
        then_keeps q New AnyLocation fs _ _ (variable v h.0 (inside v (λ u i. inl i) so))
        (λ z e. then_keeps q New AnyLocation fs _ _
        (address_of_keeps q New AnyLocation fs set (location_of p fs (variable_of v)) z e)
        (λ a d.
        then_keeps q New AnyLocation fs _ _ (arguments rest h.1 (part (λ u. inr) so))
        (λ gs _. give_keeps q New AnyLocation fs _ tt)))

    wide : (w : Option Expr) → PureWidth p w → Sound p W R fs (In_width w) → IsSilentWork Any (width set calls w)
    wide None h so = give_keeps q New AnyLocation fs None tt
    wide (Some e) h so = then_keeps q New AnyLocation fs _ _ (test e h so) (λ m _. give_keeps q New AnyLocation fs _ tt)

    -- a call writes cells alone
    entered : (f : ℕ) (gs : List ArgumentValue) → From q IsCell AnyLocation fs (λ b hs. slice_get p.blocks f ≡ Some b)
        (enter set f gs)
    entered f gs =
        after q IsCell AnyLocation _ _ (or_lost_keeps q IsCell AnyLocation fs (slice_get p.blocks f))
        (λ b is. after q IsCell AnyLocation _ _ (tick_stays set q IsCell AnyLocation 0 cells seen free fs)
        (λ u _. after q IsCell AnyLocation _ _ (deepen_stays set q IsCell AnyLocation 0 cells seen free fs) (λ u _.
        after q IsCell AnyLocation _ _ (widen_stays set q IsCell AnyLocation 0 cells seen free fs (size_of_frame set f))
        (λ u _. after q IsCell AnyLocation _ _ (enclosing_keeps set q IsCell AnyLocation 0 cells seen free fs linked
        b.parent)
        (λ link en.
        record {
          proof = λ w o n e. (laid b is (length o.frames)
              (pushed_frame set f link (references b.formals gs) w o).frames).proof w
              (pushed_frame set f link (references b.formals gs) w o) n refl;
        })))))
      where
        cells : (n x : ℕ) → 0 ≤ n → IsCell (Cell q n x)
        cells n x h = tt

        seen : (l : Loc) → IsCell l → AnyLocation l
        seen l h = tt

        laid : (b : Block) → slice_get p.blocks f ≡ Some b → (k : ℕ) (hs : List Frame)
            → From q IsCell AnyLocation hs (λ c gs. slice_get p.blocks f ≡ Some c)
            (bind (lay set k (variables_of f 0 p.variables)) (λ u. bind (copy_in set k b.formals gs) (λ u. give b)))
        laid b is k hs = after q IsCell AnyLocation _ _
            (lay_stays set q IsCell AnyLocation 0 cells seen free hs k (omega arith) (variables_of f 0 p.variables))
            (λ u _. after q IsCell AnyLocation _ _
            (copy_stays set q IsCell AnyLocation 0 cells seen free hs k (omega arith) b.formals
            gs) (λ u _. gives q IsCell AnyLocation b is))

    start_tells : (s : Stmt) (todo : List Item) → PureStmt p s → PureItems p todo → Sound p W R fs (In_stmt s)
        → StepIsSilent (statement_action set calls s todo)
    start_tells Empty todo h k so = went todo k
    start_tells (Assign v e) todo h k so = then_tells _ _ (target v h.0 (inside v (λ u i. inl i) so))
        (λ a _. then_tells _ _ (expr e h.1 (part (λ u. inr) so)) (λ x _. stores a x todo k))
    start_tells (Call f args) todo h k so =
        then_tells _ _ (arguments args h (part (λ u. inr) so))
        (λ gs _. cells_tell (enter set f gs) (λ b. Ticked (push b.body (Leave ∷ todo))) (entered f gs)
        (λ b e. (push_pure p b.body (Leave ∷ todo) (blocks f b e) k, (λ z. z, λ z. z))))
    start_tells (Sequence ss) todo h k so = went (push_all ss todo) (push_all_pure p ss todo h k)
    start_tells (If e a) todo h k so = then_tells _ _ (test e h.0 (part (λ u. inl) so)) (λ m _. go (int_le m (pos 0)))
      where
        go : (b : Bool) → StepIsSilent (give (Stepped (if b then todo else push a todo)))
        go true = went todo k
        go false = went (push a todo) (push_pure p a todo h.1 k)
    start_tells (IfElse e a c) todo h k so =
        then_tells _ _ (test e h.0 (part (λ u. inl) so)) (λ m _. go (int_le m (pos 0)))
      where
        go : (b : Bool) → StepIsSilent (give (Stepped (if b then push c todo else push a todo)))
        go true = went (push c todo) (push_pure p c todo h.2 k)
        go false = went (push a todo) (push_pure p a todo h.1 k)
    start_tells (While e s) todo h k so = then_tells _ _ (test e h.0 (part (λ u. inl) so))
        (λ m _. go (int_le m (pos 0)))
      where
        go : (b : Bool) → StepIsSilent (if b then give (Stepped todo) else
            bind (tick set.limits) (λ u. give (Ticked (push s (Do (While e s) ∷ todo)))))
        go true = went todo k
        go false = go_on (push s (Do (While e s) ∷ todo)) (push_pure p s (Do (While e s) ∷ todo) h.1 (h, k))
    start_tells (Repeat s e) todo h k so = go_on (push s (Test s e ∷ todo)) (push_pure p s (Test s e ∷ todo) h.1 (h, k))
    start_tells (For x from down to s) todo (pure_from, pure_to, is_local, pure_body) k so =
        then_tells _ _ (test from pure_from (part (λ u i. inr (inl i)) so))
        (λ m _. then_tells _ _ (test to pure_to (part (λ u i. inr (inr (inl i))) so))
        (λ z _. go m z (is_range down m z)))
      where
        go : (m z : ℤ) (b : Bool) → StepIsSilent (give (Stepped (if b then First x m z down s ∷ todo else todo)))
        go m z true = went (First x m z down s ∷ todo) ((is_local, pure_body), k)
        go m z false = went todo k
    start_tells (Case e arms) todo h k so = then_tells _ _ (test e h.0 (part (λ u. inl) so))
        (λ m _. go (arm_for m arms) (arm_pure p m arms h.1))
      where
        go : (x : Option Stmt) → PureArm p x → StepIsSilent (arm_action set x todo)
        go None i = fails fault.F9
        go (Some s) i = went (push s todo) (push_pure p s todo i k)
    start_tells (Parallel ss) todo h k so = forks (children ss) todo k
    start_tells (Forall x from to s) todo h k so =
        then_tells _ _ (test from h.0 (part (λ u i. inr (inl i)) so))
        (λ m _. then_tells _ _ (test to h.1 (part (λ u i. inr (inr (inl i))) so))
        (λ z _. go m (nat_abs ((z -ℤ m) +ℤ pos 1)) (int_lt z m)))
      where
        go : (m : ℤ) (z : ℕ) (b : Bool) → StepIsSilent
            (if b then give (Stepped todo) else fork set (indexed_children x s m z) todo)
        go m z true = went todo k
        go m z false = forks (indexed_children x s m z) todo k
    start_tells (Assume e) todo h k so = then_tells _ _ (test e h so) (λ m _. go (int_le m (pos 0)))
      where
        go : (b : Bool) → StepIsSilent (if b then fail fault.F8 else give (Stepped todo))
        go true = fails fault.F8
        go false = went todo k
    start_tells (ReadValue v) todo h k so =
        then_tells _ _ (target v h (inside v (λ u i. inr (inl i)) so))
        (λ a _. then_tells _ _ (kind_stays q New AnyLocation fs set a.kind)
        (λ t _. then_tells _ _ (left_stays q New AnyLocation fs set free (λ l w. tt) tt) (λ bs _.
        then_tells _ _ (or_lost_stays q New AnyLocation fs (reading_by t bs)) (λ x _. takes a x todo k))))
    start_tells ReadLine todo h k so = then_tells _ _ (left_stays q New AnyLocation fs set free (λ l w. tt) tt)
        (λ bs _. skips (line_length bs) todo k)
    start_tells (WriteValue (Typed t form) w) todo h k so =
        then_tells _ _ (test (Typed t form) h.0 (part (λ u i. inr (inl i)) so))
        (λ m _. then_tells _ _ (wide w h.1 (part (λ u i. inr (inr (inl i))) so))
        (λ x _. then_tells _ _ (kind_stays q New AnyLocation fs set t) (λ y _.
        then_tells _ _ (in_width_stays set q New AnyLocation (length fs) (λ n x h. h)
        (λ l w. tt) free fs (ordinal_text y m).0
        (ordinal_text y m).1 x) (λ bs _. prints bs todo k))))
    start_tells (WriteText t w) todo h k so =
        then_tells _ _ (wide w h (part (λ u i. inr (inl i)) so))
        (λ m _. then_tells _ _ (in_width_stays set q New AnyLocation (length fs) (λ n x h. h)
        (λ l w. tt) free fs true t m)
        (λ bs _. prints bs todo k))
    start_tells WriteLine todo h k so = prints (10 ∷ []) todo k
    start_tells (Open v) todo h k so = then_tells _ _ (target v h (inside v (λ u i. inl i) so)) (λ a _. opens a todo k)
    start_tells (Send c (Typed t form)) todo h k so =
        then_tells _ _ (expr c h.0 (part (λ u. inl) so))
        (λ v _. then_tells _ _ (channel_stays q New AnyLocation fs v)
        (λ to _. then_tells _ _ (expr (Typed t form) h.1 (part (λ u i. inr (inl i)) so))
        (λ x _. offers to t (Message (Tree x)) todo k)))
    start_tells (Receive c v) todo h k so =
        then_tells _ _ (expr c h.0 (part (λ u. inl) so))
        (λ y _. then_tells _ _ (channel_stays q New AnyLocation fs y)
        (λ to _. then_tells _ _ (target v h.1 (inside v (λ u i. inr (inl i)) so))
        (λ a _. offers to a.kind (Takes a) todo k)))

    module _ (z : List Frame) where
      -- what stands at a place may be read
      any_read : (y : Place) → MayRead q New AnyLocation fs set y
      any_read (AtAddress a) = tt
      any_read (Fixed m) = tt

      act_tells : (i : Item) (todo : List Item) → PureItems p (i ∷ todo) → Fit p W R z fs (i ∷ todo)
          → StepIsSilent (item_action set calls i todo)
      act_tells (Do s) todo h f = start_tells s todo h.0 h.1 f.ready.0
      act_tells (First x m limit down s) todo ((is_local, pure_body), pure_rest) f =
          turns x m limit down s todo is_local pure_body pure_rest
      act_tells (Again x limit down s) todo ((is_local, pure_body), pure_rest) f =
          then_tells _ _ (place_of_keeps q New AnyLocation fs set x)
          (λ y e. then_tells _ _ (read_stays q New AnyLocation fs set y (any_read y))
          (λ v _. then_tells _ _ (ordinal_stays q New AnyLocation fs v)
          (λ m _. turns x (next_value down m) limit down s todo is_local pure_body pure_rest)))
      act_tells (Test s e) todo ((pure_test, pure_body), pure_rest) f =
          then_tells _ _ (test e pure_test (part (λ u. inl) f.ready.0))
          (λ m _. go (int_le m (pos 0)))
        where
          go : (b : Bool) → StepIsSilent (give (Stepped (if b then Do (Repeat s e) ∷ todo else todo)))
          go true = went (Do (Repeat s e) ∷ todo) ((pure_test, pure_body), pure_rest)
          go false = went todo pure_rest
      act_tells Leave todo h f = record { proof = λ w o m n e. (h, λ y. absurd y, λ y. absurd y) }
      act_tells (Break x) todo h f = fails x

      abbrev PureAndFit : List Item → Type 0
      PureAndFit xs = PureItems p xs × Fit p W R z fs xs

      settles : (todo : List Item) → PureItems p todo → Fit p W R z fs todo → IsSilentWork PureAndFit (settle set todo)
      settles [] h f = give_keeps q New AnyLocation fs [] (h, f)
      settles (Do s ∷ todo) h f = give_keeps q New AnyLocation fs (Do s ∷ todo) (h, f)
      settles (First x m limit down s ∷ todo) h f =
          give_keeps q New AnyLocation fs (First x m limit down s ∷ todo) (h, f)
      settles (Again x limit down s ∷ todo) h f =
          then_keeps q New AnyLocation fs _ _ peeks (λ v _. go
          (settles todo h.1 (record { linked = f.linked; ready = f.ready.1; ends = f.ends })) (goes_on down limit v))
        where
          peeks : IsSilentWork Any (peek set x)
          peeks = then_keeps q New AnyLocation fs _ _ (place_of_keeps q New AnyLocation fs set x)
              (λ y e. then_keeps q New AnyLocation fs _ _
              (address_of_keeps q New AnyLocation fs set (location_of p fs x) y e)
              (λ a d. fetch_stays q New AnyLocation fs a tt))

          go : IsSilentWork PureAndFit (settle set todo) → (b : Bool)
              → IsSilentWork PureAndFit (if b then give (Again x limit down s ∷ todo) else settle set todo)
          go ih true = give_keeps q New AnyLocation fs (Again x limit down s ∷ todo) (h, f)
          go ih false = ih
      settles (Test s e ∷ todo) h f = give_keeps q New AnyLocation fs (Test s e ∷ todo) (h, f)
      settles (Leave ∷ todo) h f = give_keeps q New AnyLocation fs (Leave ∷ todo) (h, f)
      settles (Break x ∷ todo) h f = give_keeps q New AnyLocation fs (Break x ∷ todo) (h, f)

      next_action_is_silent : (todo : List Item) → PureItems p todo → Fit p W R z fs todo
          → StepIsSilent (next_action set n todo)
      next_action_is_silent todo h f = then_tells _ _ (settles todo h f) go
        where
          go : (xs : List Item) → PureAndFit xs → StepIsSilent (action_by set (run_items set n) xs)
          go [] l = record { proof = λ w o m _ e. (tt, λ y. (e, λ k. inl refl), λ y. absurd y) }
          go (i ∷ rest) l = act_tells i rest l.0 l.1

-- of a process whose rights are known, with pure expressions
module _ (set : RunInput) (free : IsFreeOfInterference set.program) (pure : AreFunctionsPure set.program)
    (blocks : AreBlocksPure set.program) (W R : Loc → Type 0) (z : List Frame) (pr : Process)
    (fit : Fit set.program W R z pr.own.frames pr.todo) (items : PureItems set.program pr.todo) (s : Store) where
  abbrev ProcessStepIsSilent : WorkOutcome Action × Store → Type 0
  ProcessStepIsSilent r = SilentStep set free pure blocks pr.who.name W R pr.own.frames fit.linked s r

  told : ProcessStepIsSilent (run_tree same_loc (action_of set pr) s)
  told = (next_action_is_silent set free pure blocks pr.who.name W R pr.own.frames fit.linked (fuel_of set pr.own) z
      pr.todo items
      fit).proof pr.who pr.own s refl refl

  -- what a step that forks, offers or ends wrote is of frames that are gone
  pub actions_are_silent : (d : Action) (o : LocalState) (m : Store) → IsStop d
      → ◌≡◌ {A = WorkOutcome Action × Store} (run_tree same_loc (action_of set pr) s) (Computed d o, m) → (l : Loc)
      → (s l ≡ m l)
      ⊎ IsDead (length o.frames) l
  actions_are_silent d o m stop e =
      let t = subst ProcessStepIsSilent e told in
      let u = t.1 stop in
      subst (λ fs. IsSame (length fs) s m) (sym u.0) u.1

  -- a step that opens a channel changed one variable
  pub silent_opens : (todo : List Item) (o : LocalState) (m : Store)
      → ◌≡◌ {A = WorkOutcome Action × Store} (run_tree same_loc (action_of set pr) s) (Computed (Opened todo) o, m)
      → IsSameButOne (length pr.own.frames) s m
  silent_opens todo o m e = (subst ProcessStepIsSilent e told).2 tt

  -- a step that fails wrote nothing to the output
  pub silent_faults : (f : Fault) (m : Store)
      → ◌≡◌ {A = WorkOutcome Action × Store} (run_tree same_loc (action_of set pr) s) (EndsInFault f, m)
      → s Output ≡ m Output
  silent_faults f m e = subst ProcessStepIsSilent e told

  -- what is left to do after a local step has pure expressions again
  pub pure_kept : (d : Action) (o : LocalState) (m : Store)
      → ◌≡◌ {A = WorkOutcome Action × Store} (run_tree same_loc (action_of set pr) s) (Computed d o, m)
      → (todo : List Item)
      → (d ≡ Stepped todo) ⊎ (d ≡ Ticked todo) → PureItems set.program todo
  pure_kept d o m e todo h = by (subst ProcessStepIsSilent e told).0 h
    where
      by : IsPureAction set.program d → (d ≡ Stepped todo) ⊎ (d ≡ Ticked todo) → PureItems set.program todo
      by k (inl e) = subst (IsPureAction set.program) e k
      by k (inr e) = subst (IsPureAction set.program) e k
