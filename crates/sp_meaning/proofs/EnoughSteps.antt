-- The bound of a step never runs out: each tick pays for what stands between two ticks.
use Rattle.std.proofs.Common.{◌≡◌, ℕ, zero, suc, ◌+◌, ◌-◌, ◌*◌, ◌<◌, ◌≤◌, Bool, true, false, List, [], ◌∷◌, ◌++◌}
use Rattle.std.proofs.Common.{length, Option, Some, None, refl, arith, if◌then◌else◌}
use Rattle.std.specs.Prelude.{ℤ, pos, ◌+ℤ◌, ◌-ℤ◌, nat_abs, slice_get, nat_lt, int_le, int_lt, take}
use Rattle.std.proofs.Math.Nat.{mul-le-mul_left}
use Rattle.std.proofs.lemmas.Bool.{ltb-true}
use Rattle.sp_base.specs.declared.fault.Fault.{Fault}
use Rattle.sp_base.specs.declared.fault.Fault.TheVariants as fault
use Rattle.sp_tree.specs.Plain.{Expr, Typed, Variable, Block, Stmt, Empty, Assign, Call, Sequence, If, IfElse, While}
use Rattle.sp_tree.specs.Plain.{Repeat, For, Case, Parallel, Forall, Assume, ReadValue, ReadLine, WriteValue, WriteText}
use Rattle.sp_tree.specs.Plain.{WriteLine, Open, Send, Receive}
use Rattle.sp_meaning.specs.EffectTree.{EffectTree, Leaf, ReadThen, WriteThen}
use Rattle.sp_meaning.specs.Values.{Value, Ordinal, Chan, initials}
use Rattle.sp_meaning.specs.LocalWork.{RunInput, Loc, Output, LocationContent, Written, Address, Frame, LocalState}
use Rattle.sp_meaning.specs.LocalWork.{Identity, Item, Do, First, Again}
use Rattle.sp_meaning.specs.LocalWork.{Test, Leave, Break, WorkOutcome, Computed, EndsInFault, IllFormed, OutOfFuel}
use Rattle.sp_meaning.specs.LocalWork.{Work, bind, give, fail, local_state, who}
use Rattle.sp_meaning.specs.LocalWork.{set_local_state, write_location, assign, or_ill_formed, tick, deepen, widen}
use Rattle.sp_meaning.specs.LocalWork.{is_block, bytes_in}
use Rattle.sp_meaning.specs.Texts.{ReadResult, ReadItem as Took, ReadFault as Stops, right_justified, line_length}
use Rattle.sp_meaning.specs.Eval.{ArgumentValue, ValueOf, PlaceOf, Calls}
use Rattle.sp_tree.specs.Cells.{variables_of}
use Rattle.sp_meaning.specs.Actions.{Birth, Action, Stepped, Opened, Forked, Offered, Ended, push, push_all, arm_for}
use Rattle.sp_meaning.specs.Actions.{is_range, goes_on, next_value, in_width, first_value_by, lay_one, lay, copy_in}
use Rattle.sp_meaning.specs.Actions.{pushed_frame}
use Rattle.sp_meaning.specs.Actions.{enclosing_link, enter, without_frame, leave, write, advance, take_in, width, peek}
use Rattle.sp_meaning.specs.Actions.{turn_of, fork, arm_action, statement_action, item_action, settle, items_after}
use Rattle.sp_meaning.specs.Actions.{function_result, call_by, rest_by, run_items}
use Rattle.sp_meaning.specs.Actions.{action_by, next_action, children, indexed_children, size_of_frame, references}
use Rattle.sp_meaning.specs.Actions.{reading_by}
use Rattle.sp_meaning.specs.Actions.{ordinal_text}
use Rattle.sp_meaning.specs.Actions as actions
use Rattle.sp_meaning.specs.SuperPascal.{weight, weight_arms, weight_blocks, weight_of, fuel_of}
use Rattle.sp_meaning.proofs.Enough.{EndsInTicks, ends_then, ends_weaker, Any, Steady, then_steady, give_steady}
use Rattle.sp_meaning.proofs.Enough.{fail_steady}
use Rattle.sp_meaning.proofs.Enough.{lost_steady, or_lost_steady, fetch_steady, assign_steady, reach_steady}
use Rattle.sp_meaning.proofs.Enough.{ordinal_steady, channel_steady, kind_steady, read_steady, address_of_steady}
use Rattle.sp_meaning.proofs.Enough.{place_of_steady, left_steady, CallsEnd, value_steady, actuals_steady}
use Rattle.sp_meaning.proofs.Enough.{address_steady, ordinal_of_steady}
use Rattle.sp_meaning.proofs.Weights.{AllBorn, AreLight, LightBlock, LightStmt, arm_light, children_born, indexed_born}
use Rattle.sp_meaning.proofs.Weights.{push_all_fit, push_all_weight, push_fit, push_weight, weights}

pub ends_strong : {A : Type 0} (u t : ℕ) (F G : A → LocalState → Type 0)
    (x : EffectTree Loc LocationContent (WorkOutcome A)) → t ≤ u
    → ((a : A) (o : LocalState) → u ≤ o.ticks → F a o → G a o) → EndsInTicks u F x → EndsInTicks t G x
ends_strong u t F G (Leaf (Computed a o)) le f h = (omega (arith, h.0), f a o h.0 h.1)
ends_strong u t F G (Leaf (EndsInFault g)) le f h = tt
ends_strong u t F G (Leaf IllFormed) le f h = tt
ends_strong u t F G (Leaf OutOfFuel) le f h = h
ends_strong u t F G (ReadThen l more) le f h = λ v. ends_strong u t F G (more v) le f (h v)
ends_strong u t F G (WriteThen l v more) le f h = ends_strong u t F G more le f h

-- begun with t ticks or more it ends so, with this fact
pub record From {A : Type 0} (t : ℕ) (G : A → LocalState → Type 0) (h : Work A) : Type 0 where
  pub proof : (w : Identity) (o : LocalState) → t ≤ o.ticks → EndsInTicks t G (h w o)

after : {A B : Type 0} (t : ℕ) (G : B → LocalState → Type 0) (h : Work A) (g : A → Work B) → Steady t h
    → ((a : A) → From t G (g a)) → From t G (bind h g)
after t G h g st next = record {
  proof = λ w o le. ends_then t Any G (h w o) g w (st.proof w o le)
      (λ a o1 l u. (next a).proof w o1 l);
}

after_fact : {A B : Type 0} (t : ℕ) (F : A → LocalState → Type 0) (G : B → LocalState → Type 0) (h : Work A)
    (g : A → Work B)
    → From t F h → ((w : Identity) (a : A) (o : LocalState) → t ≤ o.ticks → F a o → EndsInTicks t G (g a w o))
    → From t G (bind h g)
after_fact t F G h g st next = record { proof = λ w o le. ends_then t F G (h w o) g w (st.proof w o le) (next w) }

module _ (g : RunInput) (t : ℕ) where
  deepen_steady : Steady t (deepen g.limits)
  deepen_steady = record { proof = λ w o le. go w o le (nat_lt o.depth g.limits.depth) }
    where
      go : (w : Identity) (o : LocalState) → t ≤ o.ticks → (b : Bool)
          → EndsInTicks {A = Unit {0}} t Any (if b then set_local_state (record o { depth = o.depth + 1 }) w o else fail
          fault.F11 w o)
      go w o le true = (le, tt)
      go w o le false = tt

  widen_steady : (n : ℕ) → Steady t (widen g.limits n)
  widen_steady n = record { proof = λ w o le. go w o le (nat_lt g.limits.cells (o.cells + n)) }
    where
      go : (w : Identity) (o : LocalState) → t ≤ o.ticks → (b : Bool)
          → EndsInTicks {A = Unit {0}} t Any
          (if b then fail fault.F12 w o else set_local_state (record o { cells = o.cells + n }) w o)
      go w o le true = tt
      go w o le false = (le, tt)

  enclosing_steady : (q : Option ℕ) → Steady t (enclosing_link g q)
  enclosing_steady None = lost_steady t _
  enclosing_steady (Some q) = reach_steady t (is_block q)

  lay_one_steady : (n : ℕ) (x : ℕ × Variable) (v : Option Value) → Steady t (lay_one g n x v)
  lay_one_steady n x None = give_steady t tt
  lay_one_steady n x (Some v) = record { proof = λ w o le. (le, tt) }

  lay_steady : (n : ℕ) (xs : List (ℕ × Variable)) → Steady t (lay g n xs)
  lay_steady n [] = give_steady t tt
  lay_steady n (x ∷ xs) = then_steady t (lay_one g n x (first_value_by (initials g.program.kinds) x.1.role x.1.kind)) _
      (lay_one_steady n x _) (λ u. lay_steady n xs)

  copy_steady : (n : ℕ) (xs : List ℕ) (gs : List ArgumentValue) → Steady t (copy_in g n xs gs)
  copy_steady n [] gs = give_steady t tt
  copy_steady n (x ∷ xs) [] = give_steady t tt
  copy_steady n (x ∷ xs) (ValueOf v ∷ gs) = record { proof = λ w o le. (copy_steady n xs gs).proof w o le }
  copy_steady n (x ∷ xs) (PlaceOf a ∷ gs) = copy_steady n xs gs

  leave_steady : Steady t (leave g)
  leave_steady = record { proof = λ w o le. go o.frames o le }
    where
      go : (fs : List Frame) (o : LocalState) → t ≤ o.ticks → (t ≤ (without_frame g fs o).ticks) × Unit {0}
      go [] o le = (le, tt)
      go (f ∷ fs) o le = (le, tt)

  write_steady : (bs : List ℕ) → Steady t (write g bs)
  write_steady bs = record {
    proof = λ w o le h. go w o le h
        (nat_lt g.limits.output (length (bytes_in h) + length bs));
  }
    where
      go : (w : Identity) (o : LocalState) → t ≤ o.ticks → (h : LocationContent) → (b : Bool)
          → EndsInTicks {A = Unit {0}} t Any
          ((if b then fail fault.F16 else write_location Output (Written (bytes_in h ++ bs))) w o)
      go w o le h true = tt
      go w o le h false = (le, tt)

  advance_steady : (n : ℕ) → Steady t (advance g n)
  advance_steady n = record { proof = λ w o le h. (le, tt) }

  take_steady : (a : Address) (x : ReadResult) → Steady t (take_in g a x)
  take_steady a (Took n bytes) = then_steady t (advance g bytes) _ (advance_steady bytes)
      (λ u. assign_steady t a (Ordinal n))
  take_steady a (Stops f) = fail_steady t _ f

  width_steady : (call : Calls) → CallsEnd t g call → (w : Option Expr) → Steady t (width g call w)
  width_steady call ok None = give_steady t None
  width_steady call ok (Some e) = then_steady t _ _ (ordinal_of_steady t g call ok e) (λ m. give_steady t (Some m))

  in_width_steady : (cut : Bool) (bs : List ℕ) (w : Option ℤ) → Steady t (in_width cut bs w)
  in_width_steady cut bs None = give_steady t bs
  in_width_steady cut bs (Some m) = record { proof = λ w o le. go w o le (int_le m (pos 0)) }
    where
      go : (w : Identity) (o : LocalState) → t ≤ o.ticks → (b : Bool)
          → EndsInTicks {A = List ℕ} t Any ((if b then fail fault.F1 else
          give (right_justified (nat_abs m) (if cut then take (nat_abs m) bs else bs))) w o)
      go w o le true = tt
      go w o le false = (le, tt)

  peek_steady : (x : ℕ) → Steady t (peek g x)
  peek_steady x = then_steady t _ _ (place_of_steady t g x)
      (λ q. then_steady t _ _ (address_of_steady t g q) (λ a. fetch_steady t a))

module _ (g : RunInput) (k : ℕ) where
  -- what the ticks that are left can cost
  abbrev pub budget : ℕ → ℕ
  budget t = (k + 3) * (g.limits.ticks - t)

  budget_mono : (t a : ℕ) → t ≤ a → budget a ≤ budget t
  budget_mono t a h = mul-le-mul_left (k + 3) (omega arith)

  budget_tick : (t a : ℕ) → t < g.limits.ticks → t + 1 ≤ a → budget a + (k + 3) ≤ budget t
  budget_tick t a h i =
      let e : g.limits.ticks - a + 1 ≤ g.limits.ticks - t = omega arith in
      omega (arith, mul-le-mul_left (k + 3) e)

  pub record Light : Type 0 where
    pub proof : (f : ℕ) → LightBlock k (slice_get g.program.blocks f)

  abbrev Ticked : {A : Type 0} → ℕ → A → LocalState → Type 0
  Ticked t a o = (t < g.limits.ticks) × (t + 1 ≤ o.ticks)

  tick_ends : (t : ℕ) → From t (Ticked {A = Unit {0}} t) (tick g.limits)
  tick_ends t = record { proof = λ w o le. go w o le (nat_lt o.ticks g.limits.ticks) refl }
    where
      go : (w : Identity) (o : LocalState) → t ≤ o.ticks → (b : Bool) → nat_lt o.ticks g.limits.ticks ≡ b
          → EndsInTicks {A = Unit {0}} t (Ticked t)
          (if b then set_local_state (record o { ticks = o.ticks + 1 }) w o else fail fault.F10 w o)
      go w o le true e = (omega arith, (omega (arith, ltb-true o.ticks g.limits.ticks e), omega arith))
      go w o le false e = tt

  -- a call, once its arguments are known
  abbrev EnteredInTicks : ℕ → Block → LocalState → Type 0
  EnteredInTicks t b o = (weight b.body ≤ k) × (t < g.limits.ticks) × (t + 1 ≤ o.ticks)

  abbrev Is : Block → LocalState → Type 0
  Is b o = weight b.body ≤ k

  -- what comes after the tick
  abbrev rest_of : ℕ → List ArgumentValue → Block → Work Block
  rest_of f gs b =
      bind (deepen g.limits) (λ u. bind (widen g.limits (size_of_frame g f)) (λ u.
      bind (enclosing_link g b.parent) (λ link. bind local_state
      (λ o. bind who (λ w. bind (set_local_state (pushed_frame g f link (references b.formals gs) w o)) (λ u.
      bind (lay g (length o.frames) (variables_of f 0 g.program.variables))
      (λ u. bind (copy_in g (length o.frames) b.formals gs) (λ u. give b))))))))

  rest_ends : (t f : ℕ) (gs : List ArgumentValue) (b : Block) → weight b.body ≤ k → From t Is (rest_of f gs b)
  rest_ends t f gs b wb =
      after t Is _ _ (deepen_steady g t) (λ u. after t Is _ _ (widen_steady g t (size_of_frame g f))
      (λ u. after t Is _ _ (enclosing_steady g t b.parent)
      (λ link. record { proof = λ w o le. (laid o).proof w (pushed_frame g f link (references b.formals gs) w o) le })))
    where
      laid : (o : LocalState) → From t Is (bind (lay g (length o.frames) (variables_of f 0 g.program.variables))
          (λ u. bind (copy_in g (length o.frames) b.formals gs) (λ u. give b)))
      laid o = after t Is _ _ (lay_steady g t (length o.frames) (variables_of f 0 g.program.variables))
          (λ u. after t Is _ _ (copy_steady g t (length o.frames) b.formals gs)
          (λ u. record { proof = λ w o1 le. (le, wb) }))

  enter_ends : Light → (t f : ℕ) (gs : List ArgumentValue) → From t (EnteredInTicks t) (enter g f gs)
  enter_ends l t f gs = go (slice_get g.program.blocks f) (l.proof f)
    where
      go : (x : Option Block) → LightBlock k x
          → From t (EnteredInTicks t) (bind (or_ill_formed x) (λ b. bind (tick g.limits) (λ u. rest_of f gs b)))
      go None h = record { proof = λ w o le. tt }
      go (Some b) wb = record {
        proof = λ w o le.
            (after_fact t (Ticked t) (EnteredInTicks t) (tick g.limits) (λ u. rest_of f gs b) (tick_ends t)
            (λ w1 u o1 l1 h. ends_strong (t + 1) t Is (EnteredInTicks t) (rest_of f gs b w1 o1) (omega arith)
            (λ c o2 l2 i. (i, h.0, l2)) ((rest_ends (t + 1) f gs b wb).proof w1 o1 h.1))).proof w o le;
      }

  -- a step takes from what is left
  abbrev pub Falls : ℕ → ℕ → List Item → LocalState → Type 0
  Falls t w todo o = (budget o.ticks + weights todo < budget t + w) × AreLight k todo

  abbrev pub ActionFalls : ℕ → ℕ → Action → LocalState → Type 0
  ActionFalls t w (Stepped todo) o = Falls t w todo o
  ActionFalls t w (actions.Ticked todo) o = Falls t w todo o
  ActionFalls t w (Opened todo) o = AreLight k todo
  ActionFalls t w (Forked bs todo) o = AllBorn k bs × AreLight k todo
  ActionFalls t w (Offered c i payload todo) o = AreLight k todo
  ActionFalls t w Ended o = Unit {0}

  went : (t w : ℕ) (todo : List Item) → weights todo < w → AreLight k todo
      → From t (ActionFalls t w) (give (Stepped todo))
  went t w todo h f = record { proof = λ w o le. (le, (omega (arith, budget_mono t o.ticks le), f)) }

  -- after a tick
  go_on : (t w : ℕ) (todo : List Item) → weights todo < w + (k + 3) → AreLight k todo
      → From t (ActionFalls t w) (bind (tick g.limits) (λ u. give (actions.Ticked todo)))
  go_on t w todo h f = after_fact t (Ticked t) (ActionFalls t w) (tick g.limits) (λ u. give (actions.Ticked todo))
      (tick_ends t)
      (λ w u o1 l1 i. (l1, (omega (arith, budget_tick t o1.ticks i.0 i.1), f)))

  turn_ends : (t w x : ℕ) (n limit : ℤ) (down : Bool) (s : Stmt) (todo : List Item) → weight s + 3 ≤ k → AreLight k todo
      → 1 + weights todo ≤ w → From t (ActionFalls t w) (turn_of g x n limit down s todo)
  turn_ends t w x n limit down s todo h f b =
      after t (ActionFalls t w) _ _ (place_of_steady t g x)
      (λ q. after t (ActionFalls t w) _ _ (address_of_steady t g q)
      (λ a. after t (ActionFalls t w) _ _ (assign_steady t a (Ordinal n)) (λ u.
      go_on t w (push s (Again x limit down s ∷ todo)) (omega (arith, push_weight s (Again x limit down s ∷ todo)))
      (push_fit k s (Again x limit down s ∷ todo) (omega arith) (h, f)))))

  fork_ends : (t v : ℕ) (bs : List Birth) (todo : List Item) → AllBorn k bs → AreLight k todo
      → From t (ActionFalls t v) (fork g bs todo)
  fork_ends t v bs todo born f = record { proof = λ w o le. go w o le (nat_lt o.depth g.limits.depth) }
    where
      go : (w : Identity) (o : LocalState) → t ≤ o.ticks → (b : Bool)
          → EndsInTicks t (ActionFalls t v) ((if b then give (Forked bs todo) else fail fault.F11) w o)
      go w o le true = (le, (born, f))
      go w o le false = tt

  fails : (t w : ℕ) (f : Fault) → From t (ActionFalls t w) (fail f)
  fails t w f = record { proof = λ w o le. tt }

  start_ends : Light → (call : Calls) (t : ℕ) → CallsEnd t g call → (s : Stmt) (todo : List Item) → weight s ≤ k
      → AreLight k todo → From t (ActionFalls t (weight s + weights todo)) (statement_action g call s todo)
  start_ends l call t ok Empty todo w f = went t (weight Empty + weights todo) todo (omega arith) f
  start_ends l call t ok (Assign v e) todo w f =
      after t (ActionFalls t (weight (Assign v e) + weights todo)) _ _ (address_steady t g call ok v)
      (λ a. after t (ActionFalls t (weight (Assign v e) + weights todo)) _ _ (value_steady t g call ok e)
      (λ x. after t (ActionFalls t (weight (Assign v e) + weights todo)) _ _ (assign_steady t a x)
      (λ u. went t (weight (Assign v e) + weights todo) todo (omega arith) f)))
  start_ends l call t ok (Call callee args) todo w f =
      after t (ActionFalls t (weight (Call callee args) + weights todo)) _ _ (actuals_steady t g call ok args)
      (λ gs. after_fact t (EnteredInTicks t) (ActionFalls t (2 + weights todo)) _ _ (enter_ends l t callee gs)
      (λ w1 b o2 l2 h. (
        l2,
        (
          omega (arith, budget_tick t o2.ticks h.1 h.2, push_weight b.body (Leave ∷ todo), h.0),
          push_fit k b.body (Leave ∷ todo) h.0 (tt, f),
        ),
      )))
  start_ends l call t ok (Sequence ss) todo w f =
      went t (weight (Sequence ss) + weights todo) (push_all ss todo) (omega (arith, push_all_weight ss todo))
      (push_all_fit k ss todo (omega arith) f)
  start_ends l call t ok (If e a) todo w f =
      after t (ActionFalls t (weight (If e a) + weights todo)) _ _ (ordinal_of_steady t g call ok e)
      (λ n. go (int_le n (pos 0)))
    where
      go : (b : Bool) → From t (ActionFalls t (weight a + 1 + weights todo))
          (give (Stepped (if b then todo else push a todo)))
      go true = went t (weight (If e a) + weights todo) todo (omega arith) f
      go false = went t (weight (If e a) + weights todo) (push a todo) (omega (arith, push_weight a todo))
          (push_fit k a todo (omega arith) f)
  start_ends l call t ok (IfElse e a c) todo w f =
      after t (ActionFalls t (weight (IfElse e a c) + weights todo)) _ _ (ordinal_of_steady t g call ok e)
      (λ n. go (int_le n (pos 0)))
    where
      go : (b : Bool) → From t (ActionFalls t (weight a + weight c + 1 + weights todo))
          (give (Stepped (if b then push c todo else push a todo)))
      go true = went t (weight (IfElse e a c) + weights todo) (push c todo) (omega (arith, push_weight c todo))
          (push_fit k c todo (omega arith) f)
      go false = went t (weight (IfElse e a c) + weights todo) (push a todo) (omega (arith, push_weight a todo))
          (push_fit k a todo (omega arith) f)
  start_ends l call t ok (While e s) todo w f =
      after t (ActionFalls t (weight (While e s) + weights todo)) _ _ (ordinal_of_steady t g call ok e)
      (λ n. go (int_le n (pos 0)))
    where
      go : (b : Bool) → From t (ActionFalls t (weight s + 2 + weights todo))
          ((if b then give (Stepped todo) else
          bind (tick g.limits) (λ u. give (actions.Ticked (push s (Do (While e s) ∷ todo))))))
      go true = went t (weight (While e s) + weights todo) todo (omega arith) f
      go false = go_on t (weight (While e s) + weights todo) (push s (Do (While e s) ∷ todo))
          (omega (arith, push_weight s (Do (While e s) ∷ todo)))
          (push_fit k s (Do (While e s) ∷ todo) (omega arith) (w, f))
  start_ends l call t ok (Repeat s e) todo w f =
      go_on t (weight (Repeat s e) + weights todo) (push s (Test s e ∷ todo))
      (omega (arith, push_weight s (Test s e ∷ todo))) (push_fit k s (Test s e ∷ todo) (omega arith) (w, f))
  start_ends l call t ok (For x from down to s) todo w f =
      after t (ActionFalls t (weight (For x from down to s) + weights todo)) _ _ (ordinal_of_steady t g call ok from)
      (λ m. after t (ActionFalls t (weight (For x from down to s) + weights todo)) _ _
      (ordinal_of_steady t g call ok to)
      (λ n. go m n (is_range down m n)))
    where
      go : (m n : ℤ) → (b : Bool) → From t (ActionFalls t (weight s + 3 + weights todo))
          (give (Stepped (if b then First x m n down s ∷ todo else todo)))
      go m n true = went t (weight (For x from down to s) + weights todo) (First x m n down s ∷ todo) (omega arith)
          (w, f)
      go m n false = went t (weight (For x from down to s) + weights todo) todo (omega arith) f
  start_ends l call t ok (Case e arms) todo w f =
      after t (ActionFalls t (weight (Case e arms) + weights todo)) _ _ (ordinal_of_steady t g call ok e)
      (λ n. go (arm_for n arms) (arm_light n arms))
    where
      go : (x : Option Stmt) → LightStmt (weight_arms arms) x
          → From t (ActionFalls t (weight_arms arms + 1 + weights todo)) (arm_action g x todo)
      go None h = fails t (weight (Case e arms) + weights todo) fault.F9
      go (Some s) h = went t (weight (Case e arms) + weights todo) (push s todo) (omega (arith, push_weight s todo))
          (push_fit k s todo (omega arith) f)
  start_ends l call t ok (Parallel ss) todo w f =
      fork_ends t (weight (Parallel ss) + weights todo) (children ss) todo (children_born k ss (omega arith)) f
  start_ends l call t ok (Forall x from to s) todo w f =
      after t (ActionFalls t (weight (Forall x from to s) + weights todo)) _ _ (ordinal_of_steady t g call ok from)
      (λ m. after t (ActionFalls t (weight (Forall x from to s) + weights todo)) _ _ (ordinal_of_steady t g call ok to)
      (λ n. go (indexed_children x s m (nat_abs ((n -ℤ m) +ℤ pos 1)))
      (indexed_born k x s m (nat_abs ((n -ℤ m) +ℤ pos 1)) (omega arith)) (int_lt n m)))
    where
      go : (bs : List Birth) → AllBorn k bs → (b : Bool)
          → From t (ActionFalls t (weight s + 1 + weights todo)) ((if b then give (Stepped todo) else fork g bs todo))
      go bs born true = went t (weight (Forall x from to s) + weights todo) todo (omega arith) f
      go bs born false = fork_ends t (weight (Forall x from to s) + weights todo) bs todo born f
  start_ends l call t ok (Assume e) todo w f =
      after t (ActionFalls t (weight (Assume e) + weights todo)) _ _ (ordinal_of_steady t g call ok e)
      (λ n. go (int_le n (pos 0)))
    where
      go : (b : Bool) → From t (ActionFalls t (1 + weights todo)) ((if b then fail fault.F8 else give (Stepped todo)))
      go true = fails t (weight (Assume e) + weights todo) fault.F8
      go false = went t (weight (Assume e) + weights todo) todo (omega arith) f
  start_ends l call t ok (ReadValue v) todo w f =
      after t (ActionFalls t (weight (ReadValue v) + weights todo)) _ _ (address_steady t g call ok v)
      (λ a. after t (ActionFalls t (weight (ReadValue v) + weights todo)) _ _ (kind_steady t g a.kind)
      (λ i. after t (ActionFalls t (weight (ReadValue v) + weights todo)) _ _ (left_steady t g) (λ bs.
      after t (ActionFalls t (weight (ReadValue v) + weights todo)) _ _ (or_lost_steady t (reading_by i bs))
      (λ x. after t (ActionFalls t (weight (ReadValue v) + weights todo)) _ _ (take_steady g t a x)
      (λ u. went t (weight (ReadValue v) + weights todo) todo (omega arith) f)))))
  start_ends l call t ok ReadLine todo w f =
      after t (ActionFalls t (weight ReadLine + weights todo)) _ _ (left_steady t g)
      (λ bs. after t (ActionFalls t (weight ReadLine + weights todo)) _ _ (advance_steady g t (line_length bs))
      (λ u. went t (weight ReadLine + weights todo) todo (omega arith) f))
  start_ends l call t ok (WriteValue (Typed i form) wd) todo w f =
      after t (ActionFalls t (weight (WriteValue (Typed i form) wd) + weights todo)) _ _
      (ordinal_of_steady t g call ok (Typed i form))
      (λ n. after t (ActionFalls t (weight (WriteValue (Typed i form) wd) + weights todo)) _ _
      (width_steady g t call ok wd)
      (λ m. after t (ActionFalls t (weight (WriteValue (Typed i form) wd) + weights todo)) _
      _ (kind_steady t g i) (λ kd.
      after t (ActionFalls t (weight (WriteValue (Typed i form) wd) + weights todo)) _ _
      (in_width_steady g t (ordinal_text kd n).0 (ordinal_text kd n).1 m)
      (λ bs. after t (ActionFalls t (weight (WriteValue (Typed i form) wd) + weights todo)) _ _ (write_steady g t bs)
      (λ u. went t (weight (WriteValue (Typed i form) wd) + weights todo) todo (omega arith) f)))))
  start_ends l call t ok (WriteText x wd) todo w f =
      after t (ActionFalls t (weight (WriteText x wd) + weights todo)) _ _ (width_steady g t call ok wd)
      (λ m. after t (ActionFalls t (weight (WriteText x wd) + weights todo)) _ _ (in_width_steady g t true x m)
      (λ bs. after t (ActionFalls t (weight (WriteText x wd) + weights todo)) _ _ (write_steady g t bs)
      (λ u. went t (weight (WriteText x wd) + weights todo) todo (omega arith) f)))
  start_ends l call t ok WriteLine todo w f =
      after t (ActionFalls t (weight WriteLine + weights todo)) _ _ (write_steady g t (10 ∷ []))
      (λ u. went t (weight WriteLine + weights todo) todo (omega arith) f)
  start_ends l call t ok (Open v) todo w f =
      after t (ActionFalls t (weight (Open v) + weights todo)) _ _ (address_steady t g call ok v)
      (λ a. record { proof = λ w o le. (opened a w).proof w o le })
    where
      opened : (a : Address) (o : Identity) → From t (ActionFalls t (1 + weights todo))
          (bind (assign a (Chan (record { owner = o.name; nth = o.opens }))) (λ u. give (Opened todo)))
      opened a o = after t (ActionFalls t (1 + weights todo))
          (assign a (Chan (record { owner = o.name; nth = o.opens })))
          (λ u. give (Opened todo)) (assign_steady t a (Chan (record { owner = o.name; nth = o.opens })))
          (λ u. record { proof = λ w o1 l1. (l1, f) })
  start_ends l call t ok (Send c (Typed i form)) todo w f =
      after t (ActionFalls t (weight (Send c (Typed i form)) + weights todo)) _ _ (value_steady t g call ok c)
      (λ v. after t (ActionFalls t (weight (Send c (Typed i form)) + weights todo)) _ _ (channel_steady t v)
      (λ to. after t (ActionFalls t (weight (Send c (Typed i form)) + weights todo)) _ _
      (value_steady t g call ok (Typed i form)) (λ x. record { proof = λ w o1 l1. (l1, f) })))
  start_ends l call t ok (Receive c x) todo w f =
      after t (ActionFalls t (weight (Receive c x) + weights todo)) _ _ (value_steady t g call ok c)
      (λ v. after t (ActionFalls t (weight (Receive c x) + weights todo)) _ _ (channel_steady t v)
      (λ from. after t (ActionFalls t (weight (Receive c x) + weights todo)) _ _ (address_steady t g call ok x)
      (λ a. record { proof = λ w o1 l1. (l1, f) })))

  act_ends : Light → (call : Calls) (t : ℕ) → CallsEnd t g call → (i : Item) (todo : List Item) → AreLight k (i ∷ todo)
      → From t (ActionFalls t (weights (i ∷ todo))) (item_action g call i todo)
  act_ends l call t ok (Do s) todo f = start_ends l call t ok s todo f.0 f.1
  act_ends l call t ok (First x m n down s) todo f =
      turn_ends t (1 + weights todo) x m n down s todo f.0 f.1 (omega arith)
  act_ends l call t ok (Again x n down s) todo f =
      after t (ActionFalls t (1 + weights todo)) _ _ (place_of_steady t g x)
      (λ q. after t (ActionFalls t (1 + weights todo)) _ _ (read_steady t g q)
      (λ v. after t (ActionFalls t (1 + weights todo)) _ _ (ordinal_steady t v)
      (λ m. turn_ends t (1 + weights todo) x (next_value down m) n down s todo f.0 f.1 (omega arith))))
  act_ends l call t ok (Test s e) todo f = after t (ActionFalls t (weight s + 4 + weights todo)) _ _
      (ordinal_of_steady t g call ok e) (λ n. go (int_le n (pos 0)))
    where
      go : (b : Bool) → From t (ActionFalls t (weight s + 4 + weights todo))
          (give (Stepped (if b then Do (Repeat s e) ∷ todo else todo)))
      go true = went t (weight s + 4 + weights todo) (Do (Repeat s e) ∷ todo) (omega arith) f
      go false = went t (weight s + 4 + weights todo) todo (omega arith) f.1
  act_ends l call t ok Leave todo f = after t (ActionFalls t (1 + weights todo)) _ _ (leave_steady g t)
      (λ u. went t (1 + weights todo) todo (omega arith) f.1)
  act_ends l call t ok (Break x) todo f = fails t (1 + weights todo) x

  abbrev Settled : ℕ → List Item → LocalState → Type 0
  Settled w todo o = (weights todo ≤ w) × AreLight k todo

  settle_ends : (t : ℕ) (todo : List Item) → AreLight k todo → From t (Settled (weights todo)) (settle g todo)
  settle_ends t (Again x n down s ∷ todo) f =
      after t (Settled (1 + weights todo)) _ _ (peek_steady g t x) (λ v. go (goes_on down n v) (settle_ends t todo f.1))
    where
      go : (b : Bool) → From t (Settled (weights todo)) (settle g todo)
          → From t (Settled (1 + weights todo)) (if b then give (Again x n down s ∷ todo) else settle g todo)
      go true h = record { proof = λ w o le. (le, (omega arith, f)) }
      go false h = record {
        proof = λ w o le. ends_strong t t (Settled (weights todo)) (Settled (1 + weights todo))
            (settle g todo w o) (omega arith) (λ xs o1 l1 i. (omega (arith, i.0), i.1)) (h.proof w o le);
      }
  settle_ends _ _ f = record { proof = λ w o le. (le, (omega arith, f)) }

  pub record AllEnd (n : ℕ) : Type 0 where
    pub proof : (todo : List Item) (w : Identity) (o : LocalState) → AreLight k todo → budget o.ticks + weights todo < n
        → EndsInTicks o.ticks Any (run_items g n todo w o)

  answer_steady : (t : ℕ) (x : Option ℕ) → Steady t (function_result g x)
  answer_steady t None = lost_steady t _
  answer_steady t (Some x) = then_steady t _ _ (place_of_steady t g x) (λ q. read_steady t g q)

  call_ends : Light → (n : ℕ) → AllEnd n → (t : ℕ) → budget t ≤ n → CallsEnd t g (call_by g (run_items g n))
  call_ends l n ih t le = record {
    proof = λ f gs. record {
      proof = λ w o lo. (after_fact t (EnteredInTicks t) Any (enter g f gs) (ending f) (enter_ends l t f gs)
          (λ w1 b o1 l1 h.
          ends_then t Any Any (run_items g n (push b.body []) w1 o1) (finish b) w1
          (ends_weaker o1.ticks t (run_items g n (push b.body []) w1 o1) l1
          (ih.proof (push b.body []) w1 o1 (push_fit k b.body [] h.0 tt)
          (omega (arith, budget_tick t o1.ticks h.1 h.2, push_weight b.body [], h.0, le))))
          (λ rest o2 l2 u. (finished b).proof w1 o2 l2))).proof w o lo;
    };
  }
    where
      finish : Block → List Item → Work Value
      finish b rest = bind (function_result g b.answer) (λ v. bind (leave g) (λ u. give v))

      ending : ℕ → Block → Work Value
      ending f b = bind (run_items g n (push b.body []))
          (λ rest. bind (function_result g b.answer) (λ v. bind (leave g) (λ u. give v)))

      finished : (b : Block) → Steady t (bind (function_result g b.answer) (λ v. bind (leave g) (λ u. give v)))
      finished b = then_steady t _ _ (answer_steady t b.answer)
          (λ v. then_steady t _ _ (leave_steady g t) (λ u. give_steady t v))

  rest_by_ends : Light → (n : ℕ) → AllEnd n → (todo : List Item) (w : Identity) (o : LocalState) → AreLight k todo
      → budget o.ticks + weights todo < suc n → EndsInTicks o.ticks Any (rest_by g (run_items g n) todo w o)
  rest_by_ends l n ih [] w o f h = (omega arith, tt)
  rest_by_ends l n ih (i ∷ todo) w o f h =
      ends_then o.ticks (ActionFalls o.ticks (weights (i ∷ todo))) Any
      (item_action g (call_by g (run_items g n)) i todo w o) onward w
      ((act_ends l _ o.ticks (call_ends l n ih o.ticks (omega arith)) i todo f).proof w o (omega arith)) go
    where
      onward : Action → Work (List Item)
      onward d = bind (items_after g d) (run_items g n)

      go : (d : Action) (o1 : LocalState) → o.ticks ≤ o1.ticks → ActionFalls o.ticks (weights (i ∷ todo)) d o1
          → EndsInTicks o.ticks Any (bind (items_after g d) (run_items g n) w o1)
      go (Stepped todo1) o1 le d = ends_weaker o1.ticks o.ticks (run_items g n todo1 w o1) le
          (ih.proof todo1 w o1 d.1 (omega (arith, d.0, h)))
      go (actions.Ticked todo1) o1 le d = ends_weaker o1.ticks o.ticks (run_items g n todo1 w o1) le
          (ih.proof todo1 w o1 d.1 (omega (arith, d.0, h)))
      go _ _ _ _ = tt

  -- with this bound all that is left comes to an end, to a fault, or breaks a rule
  pub all_ends : Light → (n : ℕ) → AllEnd n
  all_ends l zero = record { proof = λ todo w o f h. absurd (omega arith) }
  all_ends l (suc n) = record {
    proof = λ todo w o f h. ends_then o.ticks (Settled (weights todo)) Any (settle g todo w o)
        (rest_by g (run_items g n)) w
        ((settle_ends o.ticks todo f).proof w o (omega arith)) (λ todo1 o1 le fact.
        ends_weaker o1.ticks o.ticks (rest_by g (run_items g n) todo1 w o1) le
        (rest_by_ends l n (all_ends l n) todo1 w o1 fact.1
        (omega (arith, budget_mono o.ticks o1.ticks le, fact.0, h))));
  }

  -- a step of a process with light items never runs out of its bound, and leaves light ones
  pub next_action_ends : Light → (n : ℕ) (todo : List Item) (w : Identity) (o : LocalState) → AreLight k todo
      → budget o.ticks ≤ n
      → EndsInTicks o.ticks (ActionFalls o.ticks (weights todo)) (next_action g n todo w o)
  next_action_ends l n todo w o f h = ends_then o.ticks (Settled (weights todo)) (ActionFalls o.ticks (weights todo))
      (settle g todo w o) (action_by g (run_items g n)) w ((settle_ends o.ticks todo f).proof w o (omega arith))
      (λ todo1 o1 le fact. go todo1 o1 le fact.0 fact.1)
    where
      go : (todo1 : List Item) (o1 : LocalState) → o.ticks ≤ o1.ticks → weights todo1 ≤ weights todo → AreLight k todo1
          → EndsInTicks o.ticks (ActionFalls o.ticks (weights todo)) (action_by g (run_items g n) todo1 w o1)
      go [] o1 le v fact = (le, tt)
      go (i ∷ rest) o1 le v fact = ends_strong o.ticks o.ticks (ActionFalls o.ticks (weights (i ∷ rest)))
          (ActionFalls o.ticks (weights todo)) (item_action g (call_by g (run_items g n)) i rest w o1)
          (omega arith) more
          ((act_ends l _ o.ticks (call_ends l n (all_ends l n) o.ticks h) i rest fact).proof w o1 le)
        where
          more : (d : Action) (o2 : LocalState) → o.ticks ≤ o2.ticks → ActionFalls o.ticks (weights (i ∷ rest)) d o2
              → ActionFalls o.ticks (weights todo) d o2
          more (Stepped x) o2 l2 d = (omega (arith, d.0, v), d.1)
          more (actions.Ticked x) o2 l2 d = (omega (arith, d.0, v), d.1)
          more (Opened x) o2 l2 d = d
          more (Forked os x) o2 l2 d = d
          more (Offered c y q x) o2 l2 d = d
          more Ended o2 l2 d = tt

-- every block is as light as all together
all_light : (bs : List Block) (f : ℕ) → LightBlock (weight_blocks bs) (slice_get bs f)
all_light [] f = tt
all_light (b ∷ bs) zero = omega arith
all_light (b ∷ bs) (suc f) = go (slice_get bs f) (all_light bs f)
  where
    go : (x : Option Block) → LightBlock (weight_blocks bs) x → LightBlock (weight b.body + weight_blocks bs) x
    go None h = tt
    go (Some c) h = omega (arith, h)

-- the bound of a step is enough
pub enough_is : (g : RunInput) (todo : List Item) (w : Identity) (o : LocalState) → AreLight (weight_of g.program) todo
    → EndsInTicks o.ticks (ActionFalls g (weight_of g.program) o.ticks (weights todo))
    (next_action g (fuel_of g o) todo w o)
enough_is g todo w o f = next_action_ends g (weight_of g.program) (record { proof = all_light g.program.blocks })
    (fuel_of g o)
    todo w o f (le (mul-le-mul_left (weight_of g.program + 3) (less g.limits.ticks o.ticks)))
  where
    less : (a b : ℕ) → a - b ≤ a + 1 - b
    less a b = omega arith

    le : (weight_of g.program + 3) * (g.limits.ticks - o.ticks)
        ≤ (weight_of g.program + 3) * (g.limits.ticks + 1 - o.ticks)
        → (weight_of g.program + 3) * (g.limits.ticks - o.ticks)
        ≤ (weight_of g.program + 3) * (g.limits.ticks + 1 - o.ticks) + weight_of g.program + 1
    le h = omega (arith, h)
