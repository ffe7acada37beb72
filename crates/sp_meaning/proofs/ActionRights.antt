-- What a step of statements, calls and items reads and writes is the process's to read and write, and what it comes
-- to is fair.
use Rattle.std.proofs.Common.{◌≡◌, inl, inr, sym, ap, ◌∙◌, subst, arith, eq-eqb, ℕ, zero, suc, ◌+◌, ◌≤◌, Bool, true}
use Rattle.std.proofs.Common.{false, List, [], ◌∷◌, ◌++◌, length, Option, Some, None, refl, if◌then◌else◌}
use Rattle.std.specs.Prelude.{◌+ℤ◌, ◌-ℤ◌, ℤ, pos, nat_abs, slice_get, nat_lt, int_le, int_lt, take}
use Rattle.std.proofs.lemmas.Option.{same_Some}
use Rattle.sp_tree.specs.Plain.{Expr, Typed, Actuals, Var, Variable, Block, Stmt, Empty, Assign, Call, Sequence, If}
use Rattle.sp_tree.specs.Plain.{IfElse, While, Repeat, For, Case, Parallel, Forall, Assume, ReadValue, ReadLine}
use Rattle.sp_tree.specs.Plain.{WriteValue, WriteText, WriteLine, Open, Send, Receive}
use Rattle.sp_base.specs.declared.fault.Fault.{Fault}
use Rattle.sp_base.specs.declared.fault.Fault.TheVariants as fault
use Rattle.sp_meaning.specs.Values.{Value, Ordinal, Chan, initials}
use Rattle.sp_meaning.specs.LocalWork.{RunInput, Cell, Input, OfBlock, seek, link_to, frame_link, Loc, Output}
use Rattle.sp_meaning.specs.LocalWork.{LocationContent, Tree, Written}
use Rattle.sp_meaning.specs.LocalWork.{Address, Frame, LocalState, Identity, Item, Do, First, Again, Test, Leave, Break}
use Rattle.sp_meaning.specs.LocalWork.{Work, bind, give}
use Rattle.sp_meaning.specs.LocalWork.{fail, set_local_state, write_location, assign, tick, deepen, widen, is_block}
use Rattle.sp_meaning.specs.LocalWork.{bytes_in, fetch}
use Rattle.sp_meaning.specs.Texts.{ReadResult, ReadItem as Took, ReadFault as Refuses_it, right_justified, line_length}
use Rattle.sp_meaning.specs.Eval.{value, ordinal_of, address, Place, AtAddress, Fixed, ArgumentValue, ValueOf, PlaceOf}
use Rattle.sp_meaning.specs.Eval.{Calls}
use Rattle.sp_tree.specs.Cells.{variables_of}
use Rattle.sp_meaning.specs.Actions.{Birth, Action, Stepped, Ticked, Opened, Forked, Offered, push, push_all, children}
use Rattle.sp_meaning.specs.Actions.{indexed_children, arm_for, is_range, goes_on, next_value, in_width, first_value_by}
use Rattle.sp_meaning.specs.Actions.{lay_one}
use Rattle.sp_meaning.specs.Actions.{lay, copy_in, pushed_frame, enclosing_link, enter, without_frame, leave, write}
use Rattle.sp_meaning.specs.Actions.{advance}
use Rattle.sp_meaning.specs.Actions.{take_in, width, peek, turn_of, fork, arm_action, statement_action, item_action}
use Rattle.sp_meaning.specs.Actions.{settle, items_after, function_result}
use Rattle.sp_meaning.specs.Actions.{call_by, rest_by, run_items, action_by, next_action, size_of_frame, references}
use Rattle.sp_meaning.specs.Actions.{reading_by, ordinal_text}
use Rattle.sp_meaning.specs.Actions as actions
use Rattle.sp_tree.specs.declared.checked.Role.TheVariants as role
use Rattle.sp_meaning.specs.Model.{Name, Message, Takes}
use Rattle.sp_tree.specs.Uses.{Use, Target, ParallelOf, ForallOf, In_expr, In_target, In_call, In_width, In_stmt}
use Rattle.sp_tree.specs.Uses.{In_loop}
use Rattle.sp_tree.specs.Interference.{IsFreeOfInterference}
use Rattle.sp_meaning.specs.Rights.{frame_found, Linked, frames_below, last_of, location_by, location_at, location_of}
use Rattle.sp_meaning.specs.Rights.{cell_of, AreArgumentsOf, Sound}
use Rattle.sp_meaning.specs.Rights.{ItemsAreSound, Fit, Born, Fair}
use Rattle.sp_meaning.proofs.Static.{sought}
use Rattle.sp_meaning.proofs.Within.{address_of_keeps, MayRead, StaysWithin, within_then, KeepsRights, Any, part}
use Rattle.sp_meaning.proofs.Within.{then_keeps}
use Rattle.sp_meaning.proofs.Within.{then_stays, give_keeps, give_stays, fail_stays, lost_stays, lost_keeps}
use Rattle.sp_meaning.proofs.Within.{or_lost_keeps, or_lost_stays, fetch_stays, assign_stays, ordinal_stays}
use Rattle.sp_meaning.proofs.Within.{channel_stays, kind_stays, read_stays, IsComponentOf, place_of_keeps, CallsKeep}
use Rattle.sp_meaning.proofs.Within.{input_written, output_written, left_stays, value_stays, actuals_keeps, Writable}
use Rattle.sp_meaning.proofs.Within.{address_keeps, ordinal_of_stays}
use Rattle.sp_meaning.proofs.CallRights.{fresh, fresh_linked, fresh_sound}
use Rattle.sp_meaning.proofs.SoundParts.{InArm, add_do, born_copies, born_of, copies, element_sound, in_arm}
use Rattle.sp_meaning.proofs.SoundParts.{last_shorter, linked_below, list_of, push_good, push_all_good}

-- begun by q with these frames it keeps within W and R, and its value and the frames then have this fact
pub record From {A : Type 0} (q : Name) (W R : Loc → Type 0) (fs : List Frame) (G : A → List Frame → Type 0)
    (h : Work A) : Type 0 where
  pub proof : (w : Identity) (o : LocalState) → w.name ≡ q → o.frames ≡ fs
      → StaysWithin W R (λ a o1. G a o1.frames) (h w o)

module _ (q : Name) (W R : Loc → Type 0) where
  pub after : {A B : Type 0} {F : A → Type 0} {G : B → List Frame → Type 0} {fs : List Frame} (h : Work A)
      (g : A → Work B) → KeepsRights q W R fs F h → ((a : A) → F a → From q W R fs G (g a)) → From q W R fs G (bind h g)
  after {F = F} {G = G} {fs = fs} h g a b = record {
    proof =
        λ w o n e. within_then W R (λ x o1. (o1.frames ≡ fs) × F x) (λ x o1. G x o1.frames) (h w o) g w
        (a.proof w o n e)
        (λ x o1 f. (b x f.1).proof w o1 n f.0);
  }

  pub after_from : {A B : Type 0} {F : A → List Frame → Type 0} {G : B → List Frame → Type 0} {fs : List Frame}
      (h : Work A) (g : A → Work B) → From q W R fs F h → ((a : A) (gs : List Frame) → F a gs → From q W R gs G (g a))
      → From q W R fs G (bind h g)
  after_from {F = F} {G = G} h g a b = record {
    proof =
        λ w o n e. within_then W R (λ x o1. F x o1.frames) (λ x o1. G x o1.frames) (h w o) g w (a.proof w o n e)
        (λ x o1 f. (b x o1.frames f).proof w o1 n refl);
  }

  pub gives : {A : Type 0} {G : A → List Frame → Type 0} {fs : List Frame} (a : A) → G a fs → From q W R fs G (give a)
  gives {G = G} a f = record { proof = λ w o n e. subst (λ z. G a z) (sym e) f }

  pub fails : {A : Type 0} {G : A → List Frame → Type 0} {fs : List Frame} (f : Fault) → From q W R fs G (fail f)
  fails f = record { proof = λ w o n e. tt }

-- low: what stands in the process's frames from this number on is its own to write
module _ (set : RunInput) (q : Name) (W R : Loc → Type 0) (low : ℕ) (own : (n x : ℕ) → low ≤ n → W (Cell q n x))
    (reads : (l : Loc) → W l → R l) (free : IsFreeOfInterference set.program) where
  own_cell : (w : Identity) (n x : ℕ) → low ≤ n → w.name ≡ q → W (Cell w.name n x)
  own_cell w n x h e = subst (λ z. W (Cell z n x)) (sym e) (own n x h)

  high_at : (z fs : List Frame) (todo : List Item) → low ≤ length z → Fit set.program W R z fs todo → low ≤ length fs
  high_at z fs todo h f = let a = last_shorter fs todo in let b = ap (λ (y : List Frame). length y) f.ends in
      omega (arith, h, a, b)

  module _ (fs : List Frame) where
    pub tick_stays : KeepsRights q W R fs Any (tick set.limits)
    tick_stays = record { proof = λ w o n e. go w o e (nat_lt o.ticks set.limits.ticks) }
      where
        go : (w : Identity) (o : LocalState) → o.frames ≡ fs → (b : Bool)
            → StaysWithin {A = Unit {0}} W R (λ a o1. (o1.frames ≡ fs) × Unit {0})
            (if b then set_local_state (record o { ticks = o.ticks + 1 }) w o else fail fault.F10 w o)
        go w o e true = (e, tt)
        go w o e false = tt

    pub deepen_stays : KeepsRights q W R fs Any (deepen set.limits)
    deepen_stays = record { proof = λ w o n e. go w o e (nat_lt o.depth set.limits.depth) }
      where
        go : (w : Identity) (o : LocalState) → o.frames ≡ fs → (b : Bool)
            → StaysWithin {A = Unit {0}} W R (λ a o1. (o1.frames ≡ fs) × Unit {0})
            (if b then set_local_state (record o { depth = o.depth + 1 }) w o else fail fault.F11 w o)
        go w o e true = (e, tt)
        go w o e false = tt

    pub widen_stays : (m : ℕ) → KeepsRights q W R fs Any (widen set.limits m)
    widen_stays m = record { proof = λ w o n e. go w o e (nat_lt set.limits.cells (o.cells + m)) }
      where
        go : (w : Identity) (o : LocalState) → o.frames ≡ fs → (b : Bool)
            → StaysWithin {A = Unit {0}} W R (λ a o1. (o1.frames ≡ fs) × Unit {0})
            (if b then fail fault.F12 w o else set_local_state (record o { cells = o.cells + m }) w o)
        go w o e true = tt
        go w o e false = (e, tt)

    -- the frame of the enclosing block
    abbrev Encloses : Option ℕ → ℕ → Type 0
    Encloses parent n = (c : ℕ) × (f : Frame) × (parent ≡ Some c) × (frame_found (is_block c) (length fs) fs ≡ Some f)
        × (suc f.number ≡ n)

    reach_keeps : Linked fs → (c : ℕ) → KeepsRights q W R fs (Encloses (Some c)) (link_to (is_block c))
    reach_keeps l c = record {
      proof = λ w o n e. subst
          (λ z. StaysWithin W R (λ a o1. (o1.frames ≡ fs) × Encloses (Some c) a)
          (frame_link (seek (is_block c) (length z) z) w o)) (sym e)
          ((found (seek (is_block c) (length fs) fs) refl).proof w o n e);
    }
      where
        found : (gs : List Frame) → seek (is_block c) (length fs) fs ≡ gs
            → KeepsRights q W R fs (Encloses (Some c)) (frame_link gs)
        found [] s = lost_keeps q W R fs
        found (f ∷ gs) s = let h = sought (is_block c) (length fs) fs f gs l s in
            give_keeps q W R fs (length (f ∷ gs)) (c, f, refl, h.0, sym h.1)

    pub enclosing_keeps : Linked fs → (parent : Option ℕ)
        → KeepsRights q W R fs (Encloses parent) (enclosing_link set parent)
    enclosing_keeps l None = lost_keeps q W R fs
    enclosing_keeps l (Some c) = reach_keeps l c

    lay_one_stays : (n : ℕ) → low ≤ n → (x : ℕ × Variable) (v : Option Value)
        → KeepsRights q W R fs Any (lay_one set n x v)
    lay_one_stays n h x None = give_stays q W R fs tt
    lay_one_stays n h x (Some v) = record { proof = λ w o m e. (own_cell w n x.0 h m, (e, tt)) }

    pub lay_stays : (n : ℕ) → low ≤ n → (xs : List (ℕ × Variable)) → KeepsRights q W R fs Any (lay set n xs)
    lay_stays n h [] = give_stays q W R fs tt
    lay_stays n h (x ∷ xs) = then_stays q W R fs
        (lay_one set n x (first_value_by (initials set.program.kinds) x.1.role x.1.kind)) _ (lay_one_stays n h x _)
        (λ u. lay_stays n h xs)

    pub copy_stays : (n : ℕ) → low ≤ n → (xs : List ℕ) (gs : List ArgumentValue)
        → KeepsRights q W R fs Any (copy_in set n xs gs)
    copy_stays n h [] gs = give_stays q W R fs tt
    copy_stays n h (x ∷ xs) [] = give_stays q W R fs tt
    copy_stays n h (x ∷ xs) (ValueOf v ∷ gs) =
        record { proof = λ w o m e. (own_cell w n x h m, (copy_stays n h xs gs).proof w o m e) }
    copy_stays n h (x ∷ xs) (PlaceOf a ∷ gs) = copy_stays n h xs gs

    leave_from : From q W R fs (λ (u : Unit {0}) gs. gs ≡ frames_below fs) (leave set)
    leave_from = record { proof = λ w o n e. go o.frames o refl ∙ ap frames_below e }
      where
        go : (gs : List Frame) (o : LocalState) → o.frames ≡ gs → (without_frame set gs o).frames ≡ frames_below gs
        go [] o e = e
        go (f ∷ gs) o e = refl

    write_stays : W Output → (bs : List ℕ) → KeepsRights q W R fs Any (write set bs)
    write_stays out bs = record {
      proof = λ w o n e.
          (reads Output out, λ h. go w o e h (nat_lt set.limits.output (length (bytes_in h) + length bs)));
    }
      where
        go : (w : Identity) (o : LocalState) → o.frames ≡ fs → (h : LocationContent) → (b : Bool)
            → StaysWithin {A = Unit {0}} W R (λ a o1. (o1.frames ≡ fs) × Unit {0})
            ((if b then fail fault.F16 else write_location Output (Written (bytes_in h ++ bs))) w o)
        go w o e h true = tt
        go w o e h false = (out, (e, tt))

    advance_stays : W Input → (n : ℕ) → KeepsRights q W R fs Any (advance set n)
    advance_stays a n = record { proof = λ w o m e. (reads Input a, λ h. (a, (e, tt))) }

    take_stays : W Input → (a : Address) → W a.spot → (x : ReadResult) → KeepsRights q W R fs Any (take_in set a x)
    take_stays i a u (Took n bytes) = then_stays q W R fs (advance set bytes) _ (advance_stays i bytes)
        (λ z. assign_stays q W R fs a (Ordinal n) (reads a.spot u) u)
    take_stays i a u (Refuses_it f) = fail_stays q W R fs _ f

    pub in_width_stays : (cut : Bool) (bs : List ℕ) (w : Option ℤ) → KeepsRights q W R fs Any (in_width cut bs w)
    in_width_stays cut bs None = give_stays q W R fs bs
    in_width_stays cut bs (Some m) = go (int_le m (pos 0))
      where
        go : (b : Bool) → KeepsRights q W R fs Any
            (if b then fail fault.F1 else give (right_justified (nat_abs m) (if cut then take (nat_abs m) bs else bs)))
        go true = fail_stays q W R fs _ fault.F1
        go false = give_stays q W R fs _

  -- after a call's arguments the body is sound in the new frames
  abbrev BodyIsSound : ℕ → List Frame → Block → List Frame → Type 0
  BodyIsSound f fs b gs = (slice_get set.program.blocks f ≡ Some b) × Linked gs
      × Sound set.program W R gs (In_stmt b.body)
      × (new : Frame) × (gs ≡ new ∷ fs) × (new.owner ≡ q) × (new.home ≡ OfBlock f)

  enter_from : (fs : List Frame) → low ≤ length fs → (f : ℕ) (args : Actuals) (gs : List ArgumentValue) → Linked fs
      → Sound set.program W R fs (In_call f args) → AreArgumentsOf set.program fs args gs
      → From q W R fs (BodyIsSound f fs) (enter set f gs)
  enter_from fs high f args gs l s g =
      after q W R _ _ (or_lost_keeps q W R fs (slice_get set.program.blocks f))
      (λ b is. after q W R _ _ (tick_stays fs)
      (λ u _. after q W R _ _ (deepen_stays fs)
      (λ u _. after q W R _ _ (widen_stays fs (size_of_frame set f)) (λ u _.
      after q W R _ _ (enclosing_keeps fs l b.parent)
      (λ link en. record {
        proof = λ w o n e.
            (laid b is link en o.frames (subst (λ y. low ≤ length y) (sym e) high)).proof w
            (pushed_frame set f link (references b.formals gs) w o) n (same b link en w o n e);
      })))))
    where
      fresh_of : (b : Block) (link : ℕ) → Encloses fs b.parent link → Frame
      fresh_of b link en = fresh set.program q W R low own reads free fs f b args gs en.0 en.1

      same : (b : Block) (link : ℕ) (en : Encloses fs b.parent link) (w : Identity) (o : LocalState) → w.name ≡ q
          → o.frames ≡ fs
          → (pushed_frame set f link (references b.formals gs) w o).frames ≡ fresh_of b link en ∷ fs
      same b link (_, _, _, _, link_is) w o n e = λ i. record {
        owner = n i;
        number = length (e i);
        home = OfBlock f;
        link = sym link_is i;
        references = references b.formals gs;
      } ∷ e i

      laid : (b : Block) → slice_get set.program.blocks f ≡ Some b
          → (link : ℕ) (en : Encloses fs b.parent link) (hs : List Frame) → low ≤ length hs
          → From q W R (fresh_of b link en ∷ fs) (BodyIsSound f fs)
          (bind (lay set (length hs) (variables_of f 0 set.program.variables))
          (λ u. bind (copy_in set (length hs) b.formals gs) (λ u. give b)))
      laid b is link en hs h = after q W R _ _
          (lay_stays (fresh_of b link en ∷ fs) (length hs) h (variables_of f 0 set.program.variables))
          (λ u _. after q W R _ _ (copy_stays (fresh_of b link en ∷ fs) (length hs) h b.formals gs) (λ u _.
          let (parent, frame, is_parent, is_found, _) = en in
          gives q W R b (
            is,
            fresh_linked set.program q W R low own reads free fs f b args gs parent frame l is g
                (free.parents f b parent is is_parent) is_found,
            fresh_sound set.program q W R low own reads free fs f b args gs parent frame l is g
                (free.parents f b parent is is_parent) is_found high s,
            fresh_of b link en,
            refl,
            refl,
            refl,
          )))

  module _ (fs z : List Frame) (high : low ≤ length fs) where
    abbrev IsSound : (Use → Type 0) → Type 0
    IsSound Here = Sound set.program W R fs Here

    abbrev ItemsFit : List Item → Type 0
    ItemsFit todo = Fit set.program W R z fs todo

    abbrev Step : Work Action → Type 0
    Step h = From q W R fs (Fair set.program W R z) h

    went : (todo : List Item) → ItemsFit todo → Step (give (Stepped todo))
    went todo f = gives q W R (Stepped todo) f

    -- after a tick
    go_on : (todo : List Item) → ItemsFit todo → Step (bind (tick set.limits) (λ u. give (Ticked todo)))
    go_on todo f = after q W R (tick set.limits) _ (tick_stays fs) (λ u _. gives q W R (Ticked todo) f)

    add : (i : Item) (todo : List Item)
        → (ItemsAreSound set.program W R fs todo → ItemsAreSound set.program W R fs (i ∷ todo))
        → last_of fs (i ∷ todo) ≡ last_of fs todo → ItemsFit todo → ItemsFit (i ∷ todo)
    add i todo r e f = record { linked = f.linked; ready = r f.ready; ends = e ∙ f.ends }

    turn_from : (x : ℕ) (n limit : ℤ) (down : Bool) (s : Stmt) (todo : List Item) → IsSound (In_loop x s)
        → ItemsFit todo
        → Step (turn_of set x n limit down s todo)
    turn_from x n limit down s todo so f =
        after q W R _ _ (place_of_keeps q W R fs set x)
        (λ y e. after q W R _ _ (address_of_keeps q W R fs set (location_of set.program fs x) y e) (λ a d.
        let w : W a.spot = so.allowed [] (Target x) (inl refl) x a.spot (refl, d) in
        after q W R _ _ (assign_stays q W R fs a (Ordinal n) (reads a.spot w) w) (λ u _.
        go_on (push s (Again x limit down s ∷ todo))
        (push_good set.program W R z fs s (Again x limit down s ∷ todo) (part (λ u. inr) so)
        (add (Again x limit down s) todo (λ r. (so, r)) refl f)))))

    fork_from : (ss : List Stmt) (bs : List Birth) (todo : List Item) → Born set.program W R fs ss bs → ItemsFit todo
        → Step (fork set bs todo)
    fork_from ss bs todo b f = record { proof = λ w o n e. go w o n e (nat_lt o.depth set.limits.depth) }
      where
        go : (w : Identity) (o : LocalState) → w.name ≡ q → o.frames ≡ fs → (c : Bool)
            → StaysWithin W R (λ d o1. Fair set.program W R z d o1.frames)
            ((if c then give (Forked bs todo) else fail fault.F11) w o)
        go w o n e true = subst (λ y. Fair set.program W R z (Forked bs todo) y) (sym e) (ss, b, f)
        go w o n e false = tt

    module _ (call : Calls) (ok : CallsKeep q W R fs set free reads call) where
      expr : (e : Expr) → IsSound (In_expr e) → KeepsRights q W R fs Any (value set call e)
      expr e so = value_stays q W R fs set free reads call ok e so

      test : (e : Expr) → IsSound (In_expr e) → KeepsRights q W R fs Any (ordinal_of set call e)
      test e so = ordinal_of_stays q W R fs set free reads call ok e so

      target : (v : Var) → IsSound (In_target v)
          → KeepsRights q W R fs (Writable q W R fs set free reads) (address set call v)
      target v so = address_keeps q W R fs set free reads call ok v so

      width_stays : (w : Option Expr) → IsSound (In_width w) → KeepsRights q W R fs Any (width set call w)
      width_stays None so = give_stays q W R fs None
      width_stays (Some e) so = then_stays q W R fs _ _ (test e so) (λ m. give_stays q W R fs (Some m))

      printed : (bs : List ℕ) (todo : List Item) → W Output → ItemsFit todo
          → Step (bind (write set bs) (λ u. give (Stepped todo)))
      printed bs todo out f = after q W R _ _ (write_stays fs out bs) (λ u _. went todo f)

      pub start_from : (s : Stmt) (todo : List Item) → IsSound (In_stmt s) → ItemsFit todo
          → Step (statement_action set call s todo)
      start_from Empty todo so f = went todo f
      start_from (Assign v e) todo so f = after q W R _ _ (target v (part (λ u. inl) so))
          (λ a w. after q W R _ _ (expr e (part (λ u. inr) so))
          (λ x _. after q W R _ _ (assign_stays q W R fs a x (reads a.spot w) w) (λ u _. went todo f)))
      start_from (Call g args) todo so f =
          after q W R _ _ (actuals_keeps q W R fs set free reads call ok args (part (λ u. inr) so))
          (λ gs gave. after_from q W R _ _ (enter_from fs high g args gs f.linked so gave) (λ b hs h.
          gives q W R (Ticked (push b.body (Leave ∷ todo)))
          (push_good set.program W R z hs b.body (Leave ∷ todo) h.2 (back hs b h))))
        where
          back : (hs : List Frame) (b : Block) → BodyIsSound g fs b hs → Fit set.program W R z hs (Leave ∷ todo)
          back hs b (_, linked, _, _, frames_are, _, _) = record {
            linked = linked;
            ready = subst (λ y. ItemsAreSound set.program W R (frames_below y) todo) (sym frames_are) f.ready;
            ends = subst (λ y. last_of (frames_below y) todo ≡ z) (sym frames_are) f.ends;
          }
      start_from (Sequence ss) todo so f = went (push_all ss todo) (push_all_good set.program W R z fs ss todo so f)
      start_from (If e a) todo so f = after q W R _ _ (test e (part (λ u. inl) so)) (λ n _. go (int_le n (pos 0)))
        where
          go : (b : Bool) → Step (give (Stepped (if b then todo else push a todo)))
          go true = went todo f
          go false = went (push a todo) (push_good set.program W R z fs a todo (part (λ u. inr) so) f)
      start_from (IfElse e a c) todo so f = after q W R _ _ (test e (part (λ u. inl) so)) (λ n _. go (int_le n (pos 0)))
        where
          go : (b : Bool) → Step (give (Stepped (if b then push c todo else push a todo)))
          go true = went (push c todo) (push_good set.program W R z fs c todo (part (λ u i. inr (inr i)) so) f)
          go false = went (push a todo) (push_good set.program W R z fs a todo (part (λ u i. inr (inl i)) so) f)
      start_from (While e s) todo so f = after q W R _ _ (test e (part (λ u. inl) so)) (λ n _. go (int_le n (pos 0)))
        where
          go : (b : Bool) → Step (if b then give (Stepped todo) else
              bind (tick set.limits) (λ u. give (Ticked (push s (Do (While e s) ∷ todo)))))
          go true = went todo f
          go false = go_on (push s (Do (While e s) ∷ todo))
              (push_good set.program W R z fs s (Do (While e s) ∷ todo) (part (λ u. inr) so)
              (add_do set.program W R z fs (While e s) todo so f))
      start_from (Repeat s e) todo so f = go_on (push s (Test s e ∷ todo))
          (push_good set.program W R z fs s (Test s e ∷ todo) (part (λ u. inr) so)
          (add (Test s e) todo (λ r. (so, r)) refl f))
      start_from (For x from down to s) todo so f =
          after q W R _ _ (test from (part (λ u i. inr (inl i)) so))
          (λ m _. after q W R _ _ (test to (part (λ u i. inr (inr (inl i))) so))
          (λ n _. go m n (is_range down m n)))
        where
          loop : (u : Use) → In_loop x s u → In_stmt (For x from down to s) u
          loop u (inl e) = inl e
          loop u (inr h) = inr (inr (inr h))

          go : (m n : ℤ) → (b : Bool) → Step (give (Stepped (if b then First x m n down s ∷ todo else todo)))
          go m n true = went (First x m n down s ∷ todo) (add (First x m n down s) todo (λ r. (part loop so, r)) refl f)
          go m n false = went todo f
      start_from (Case e arms) todo so f = after q W R _ _ (test e (part (λ u. inl) so))
          (λ n _. go (arm_for n arms) (in_arm n arms))
        where
          go : (x : Option Stmt) → InArm arms x → Step (arm_action set x todo)
          go None h = fails q W R fault.F9
          go (Some s) h = went (push s todo) (push_good set.program W R z fs s todo (part (λ u i. inr (h u i)) so) f)
      start_from (Parallel ss) todo so f = fork_from (list_of ss) (children ss) todo
          (born_of ss (part (λ u h. inr (inl h)) so) (so.kept (ParallelOf ss) (inl refl))) f
      start_from (Forall x from to s) todo so f =
          after q W R _ _ (test from (part (λ u i. inr (inl i)) so))
          (λ m _. after q W R _ _ (test to (part (λ u i. inr (inr (inl i))) so))
          (λ n _. go m (nat_abs ((n -ℤ m) +ℤ pos 1)) (int_lt n m)))
        where
          go : (m : ℤ) (k : ℕ) → (b : Bool) → Step
              (if b then give (Stepped todo) else fork set (indexed_children x s m k) todo)
          go m k true = went todo f
          go m k false = fork_from (copies k s) (indexed_children x s m k) todo
              (born_copies x s (element_sound x from to s so) (so.kept (ForallOf x s) (inl refl)).1 m k) f
      start_from (Assume e) todo so f = after q W R _ _ (test e so) (λ n _. go (int_le n (pos 0)))
        where
          go : (b : Bool) → Step (if b then fail fault.F8 else give (Stepped todo))
          go true = fails q W R fault.F8
          go false = went todo f
      start_from (ReadValue v) todo so f =
          let i : W Input = input_written q W R fs set free reads so (inl refl) in
          after q W R _ _ (target v (part (λ u h. inr (inl h)) so))
          (λ a w. after q W R _ _ (kind_stays q W R fs set a.kind)
          (λ k _. after q W R _ _ (left_stays q W R fs set free reads (reads Input i)) (λ bs _.
          after q W R _ _ (or_lost_stays q W R fs (reading_by k bs))
          (λ x _. after q W R _ _ (take_stays fs i a w x) (λ u _. went todo f)))))
      start_from ReadLine todo so f =
          let i : W Input = input_written q W R fs set free reads so (inl refl) in
          after q W R _ _ (left_stays q W R fs set free reads (reads Input i))
          (λ bs _. after q W R _ _ (advance_stays fs i (line_length bs)) (λ u _. went todo f))
      start_from (WriteValue (Typed k form) w) todo so f =
          after q W R _ _ (test (Typed k form) (part (λ u i. inr (inl i)) so))
          (λ n _. after q W R _ _ (width_stays w (part (λ u i. inr (inr (inl i))) so))
          (λ m _. after q W R _ _ (kind_stays q W R fs set k) (λ t _.
          after q W R _ _ (in_width_stays fs (ordinal_text t n).0 (ordinal_text t n).1 m)
          (λ bs _. printed bs todo (output_written q W R fs set free reads so (inl refl)) f))))
      start_from (WriteText t w) todo so f =
          after q W R _ _ (width_stays w (part (λ u i. inr (inl i)) so))
          (λ m _. after q W R _ _ (in_width_stays fs true t m)
          (λ bs _. printed bs todo (output_written q W R fs set free reads so (inl refl)) f))
      start_from WriteLine todo so f = printed (10 ∷ []) todo (output_written q W R fs set free reads so (inl refl)) f
      start_from (Open v) todo so f = after q W R _ _ (target v (part (λ u. inl) so))
          (λ a w. record { proof = λ y o n e. (opened a w y).proof y o n e })
        where
          opened : (a : Address) → W a.spot → (y : Identity)
              → Step (bind (assign a (Chan (record { owner = y.name; nth = y.opens }))) (λ u. give (Opened todo)))
          opened a w y = after q W R _ _ (assign_stays q W R fs a (Chan (record { owner = y.name; nth = y.opens }))
              (reads a.spot w) w) (λ u _. gives q W R (Opened todo) f)
      start_from (Send c (Typed k form)) todo so f =
          after q W R _ _ (expr c (part (λ u. inl) so))
          (λ v _. after q W R _ _ (channel_stays q W R fs v)
          (λ to _. after q W R _ _ (expr (Typed k form) (part (λ u h. inr (inl h)) so))
          (λ x _. gives q W R (Offered to k (Message (Tree x)) todo) (tt, f))))
      start_from (Receive c x) todo so f =
          after q W R _ _ (expr c (part (λ u. inl) so))
          (λ v _. after q W R _ _ (channel_stays q W R fs v)
          (λ to _. after q W R _ _ (target x (part (λ u h. inr (inl h)) so))
          (λ a w. gives q W R (Offered to a.kind (Takes a) todo) (w, f))))

      pub act_from : (i : Item) (todo : List Item) → ItemsFit (i ∷ todo) → Step (item_action set call i todo)
      act_from (Do s) todo f = start_from s todo f.ready.0
          (record { linked = f.linked; ready = f.ready.1; ends = f.ends })
      act_from (First x m n down s) todo f =
          turn_from x m n down s todo f.ready.0 (record { linked = f.linked; ready = f.ready.1; ends = f.ends })
      act_from (Again x n down s) todo f =
          after q W R _ _ (place_of_keeps q W R fs set x)
          (λ y e. after q W R _ _ (read_stays q W R fs set y (may y e))
          (λ v _. after q W R _ _ (ordinal_stays q W R fs v) (λ m _.
          turn_from x (next_value down m) n down s todo f.ready.0
          (record { linked = f.linked; ready = f.ready.1; ends = f.ends }))))
        where
          may : (y : Place) → IsComponentOf q W R fs (location_of set.program fs x) y → MayRead q W R fs set y
          may (AtAddress a) e = reads a.spot (f.ready.0.allowed [] (Target x) (inl refl) x a.spot (refl, e))
          may (Fixed n) e = tt
      act_from (Test s e) todo f = after q W R _ _ (test e (part (λ u. inl) f.ready.0)) (λ n _. go (int_le n (pos 0)))
        where
          rest : ItemsFit todo
          rest = record { linked = f.linked; ready = f.ready.1; ends = f.ends }

          go : (b : Bool) → Step (give (Stepped (if b then Do (Repeat s e) ∷ todo else todo)))
          go true = went (Do (Repeat s e) ∷ todo) (add_do set.program W R z fs (Repeat s e) todo f.ready.0 rest)
          go false = went todo rest
      act_from Leave todo f = after_from q W R _ _ (leave_from fs)
          (λ u gs e. gives q W R (Stepped todo)
          (subst (λ y. Fit set.program W R z y todo) (sym e)
          (record { linked = linked_below fs f.linked; ready = f.ready; ends = f.ends })))
      act_from (Break x) todo f = fails q W R x

  -- leaving loops
  settle_from : (z fs : List Frame) (todo : List Item) → Fit set.program W R z fs todo
      → From q W R fs (λ xs gs. Fit set.program W R z gs xs) (settle set todo)
  settle_from z fs [] f = gives q W R [] f
  settle_from z fs (Do s ∷ todo) f = gives q W R (Do s ∷ todo) f
  settle_from z fs (First x m n down s ∷ todo) f = gives q W R (First x m n down s ∷ todo) f
  settle_from z fs (Again x n down s ∷ todo) f =
      after q W R _ _ peeks (λ v _. go (settle_from z fs todo
      (record { linked = f.linked; ready = f.ready.1; ends = f.ends })) (goes_on down n v))
    where
      looks : (a : Address) → location_of set.program fs x ≡ Some a.spot → KeepsRights q W R fs Any (fetch a)
      looks a e = fetch_stays q W R fs a (reads a.spot (f.ready.0.allowed [] (Target x) (inl refl) x a.spot (refl, e)))

      peeks : KeepsRights q W R fs Any (peek set x)
      peeks = then_keeps q W R fs _ _ (place_of_keeps q W R fs set x)
          (λ y e. then_keeps q W R fs _ _ (address_of_keeps q W R fs set (location_of set.program fs x) y e)
          (λ a d. looks a d))

      go : From q W R fs (λ xs gs. Fit set.program W R z gs xs) (settle set todo) → (b : Bool)
          → From q W R fs (λ xs gs. Fit set.program W R z gs xs)
          (if b then give (Again x n down s ∷ todo) else settle set todo)
      go ih true = gives q W R (Again x n down s ∷ todo) f
      go ih false = ih
  settle_from z fs (Test s e ∷ todo) f = gives q W R (Test s e ∷ todo) f
  settle_from z fs (Leave ∷ todo) f = gives q W R (Leave ∷ todo) f
  settle_from z fs (Break x ∷ todo) f = gives q W R (Break x ∷ todo) f

  pub record AllKeep (n : ℕ) : Type 0 where
    pub proof : (z fs : List Frame) (todo : List Item) → low ≤ length z → Fit set.program W R z fs todo
        → From q W R fs (λ (xs : List Item) gs. gs ≡ z) (run_items set n todo)

  at_same : {A : Type 0} (G : A → List Frame → Type 0) (fs gs : List Frame) (h : Work A) → gs ≡ fs → From q W R fs G h
      → From q W R gs G h
  at_same G fs gs h e f = subst (λ y. From q W R y G h) (sym e) f

  -- a function's result stands in its own frame
  answer_stands : (new : Frame) (fs : List Frame) (f x : ℕ) → new.home ≡ OfBlock f → (i : Variable)
      → slice_get set.program.variables x ≡ Some i → i.role ≡ role.Answer → i.block ≡ f
      → location_of set.program (new ∷ fs) x ≡ Some (Cell new.owner new.number x)
  answer_stands new fs f x h i v r b = ap (location_at (new ∷ fs) x) v ∙ ap (location_by (new ∷ fs) x i) r
      ∙ ap (cell_of x) found
    where
      outside : Option Frame
      outside = frame_found (is_block i.block) new.link fs

      further : Option Frame
      further = frame_found (is_block i.block) (length (new ∷ fs)) fs

      found : frame_found (is_block i.block) (length (new ∷ fs)) (new ∷ fs) ≡ Some new
      found = ap (λ c. if c then (if is_block i.block new.home then Some new else outside) else further)
          (eq-eqb (length (new ∷ fs)) (length (new ∷ fs)) refl)
          ∙ ap (λ c. if c then Some new else outside) (ap (is_block i.block) h ∙ eq-eqb i.block f b)

  answer_stays : (fs hs : List Frame) → low ≤ length fs → (f : ℕ) (b : Block) → BodyIsSound f fs b hs → (x : Option ℕ)
      → b.answer ≡ x → KeepsRights q W R hs Any (function_result set x)
  answer_stays fs hs high f b h None e = lost_stays q W R hs _
  answer_stays fs hs high f b (body_is, linked, _, new, frames_are, owner_is, home_is) (Some x) e =
      then_keeps q W R hs _ _ (place_of_keeps q W R hs set x) (λ y d. read_stays q W R hs set y (may y d))
    where
      number : low ≤ new.number
      number = let l : Linked (new ∷ fs) = subst Linked frames_are linked in let e = l.0 in omega (arith, high, e)

      is : location_of set.program hs x ≡ Some (Cell new.owner new.number x)
      is =
          let (answer, is_answer, has_role, of_block) = free.answers f b x body_is e in
          ap (λ y. location_of set.program y x) frames_are
          ∙ answer_stands new fs f x home_is answer is_answer has_role of_block

      may : (y : Place) → IsComponentOf q W R hs (location_of set.program hs x) y → MayRead q W R hs set y
      may (AtAddress a) d =
          let same : Cell new.owner new.number x ≡ a.spot =
          same_Some (Cell new.owner new.number x) a.spot (sym is ∙ d) in
          reads a.spot (subst W same (subst (λ y. W (Cell y new.number x)) (sym owner_is) (own new.number x number)))
      may (Fixed n) d = tt

  pub call_keeps : (n : ℕ) → AllKeep n → (fs : List Frame) → low ≤ length fs → Linked fs
      → CallsKeep q W R fs set free reads (call_by set (run_items set n))
  call_keeps n ih fs high l = record {
    proof = λ f args gs so gave.
        record { proof = λ w o m e. (whole f args gs so gave).proof w o m e };
  }
    where
      Ended : Value → List Frame → Type 0
      Ended v gs = (gs ≡ fs) × Unit {0}

      higher : (hs : List Frame) (new : Frame) → hs ≡ new ∷ fs → low ≤ length hs
      higher hs new e = let a = ap (λ (y : List Frame). length y) e in omega (arith, high, a)

      finish : Block → Work Value
      finish b = bind (function_result set b.answer) (λ v. bind (leave set) (λ u. give v))

      finished : (f : ℕ) (b : Block) (hs : List Frame) → BodyIsSound f fs b hs → From q W R hs Ended (finish b)
      finished f b hs h = let (_, _, _, _, frames_are, _, _) = h in
          after q W R _ _ (answer_stays fs hs high f b h b.answer refl)
          (λ v _. after_from q W R _ _ (leave_from hs) (λ u gs e. gives q W R v (e ∙ ap frames_below frames_are, tt)))

      whole : (f : ℕ) (args : Actuals) (gs : List ArgumentValue) → Sound set.program W R fs (In_call f args)
          → AreArgumentsOf set.program fs args gs → From q W R fs Ended
          (bind (enter set f gs) (λ b. bind (run_items set n (push b.body [])) (λ rest. finish b)))
      whole f args gs so gave = after_from q W R _ _ (enter_from fs high f args gs l so gave) (λ b hs h.
          let (_, linked, sound, new, frames_are, _, _) = h in
          after_from q W R _ _ (ih.proof hs hs (push b.body []) (higher hs new frames_are)
          (push_good set.program W R hs hs b.body [] sound (record { linked = linked; ready = tt; ends = refl })))
          (λ rest is e. at_same Ended hs is (finish b) e (finished f b hs h)))

  rest_by_from : (n : ℕ) → AllKeep n → (z fs : List Frame) (todo : List Item) → low ≤ length z
      → Fit set.program W R z fs todo
      → From q W R fs (λ (xs : List Item) gs. gs ≡ z) (rest_by set (run_items set n) todo)
  rest_by_from n ih z fs [] high f = gives q W R [] f.ends
  rest_by_from n ih z fs (i ∷ todo) high f = let h = high_at z fs (i ∷ todo) high f in
      after_from q W R _ _ (act_from fs z h (call_by set (run_items set n)) (call_keeps n ih fs h f.linked) i todo f) go
    where
      go : (d : Action) (gs : List Frame) → Fair set.program W R z d gs
          → From q W R gs (λ (xs : List Item) hs. hs ≡ z) (bind (items_after set d) (run_items set n))
      go (Stepped todo1) gs h = record { proof = λ w o m e. (ih.proof z gs todo1 high h).proof w o m e }
      go (Ticked todo1) gs h = record { proof = λ w o m e. (ih.proof z gs todo1 high h).proof w o m e }
      go (Opened todo1) gs h = record { proof = λ w o m e. tt }
      go (Forked bs todo1) gs h = record { proof = λ w o m e. tt }
      go (Offered c k g todo1) gs h = record { proof = λ w o m e. tt }
      go actions.Ended gs h = record { proof = λ w o m e. tt }

  pub all_keep : (n : ℕ) → AllKeep n
  all_keep zero = record { proof = λ z fs todo high f. record { proof = λ w o m e. tt } }
  all_keep (suc n) = record {
    proof = λ z fs todo high f. after_from q W R _ _ (settle_from z fs todo f)
        (λ todo1 gs g. rest_by_from n (all_keep n) z gs todo1 high g);
  }

  -- a step of a process reads R's locations and writes W's, and comes to what is fair
  next_action_above : (n : ℕ) (z fs : List Frame) (todo : List Item) → low ≤ length z → Fit set.program W R z fs todo
      → From q W R fs (Fair set.program W R z) (next_action set n todo)
  next_action_above n z fs todo high f = after_from q W R _ _ (settle_from z fs todo f) go
    where
      go : (todo1 : List Item) (gs : List Frame) → Fit set.program W R z gs todo1
          → From q W R gs (Fair set.program W R z) (action_by set (run_items set n) todo1)
      go [] gs g = gives q W R actions.Ended tt
      go (i ∷ rest) gs g = let h = high_at z gs (i ∷ rest) high g in
          act_from gs z h (call_by set (run_items set n)) (call_keeps n (all_keep n) gs h g.linked) i rest g

-- where all that stands in the process's frames is its own to write
pub next_action_from : (set : RunInput) (q : Name) (W R : Loc → Type 0) (own : (n x : ℕ) → W (Cell q n x))
    (reads : (l : Loc) → W l → R l) (free : IsFreeOfInterference set.program) (n : ℕ) (z fs : List Frame)
    (todo : List Item) → Fit set.program W R z fs todo
    → From q W R fs (Fair set.program W R z) (next_action set n todo)
next_action_from set q W R own reads free n z fs todo f =
    next_action_above set q W R 0 (λ m x h. own m x) reads free n z fs todo (omega arith) f
