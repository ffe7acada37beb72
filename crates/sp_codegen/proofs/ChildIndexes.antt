-- The children of a fork: where the code of each begins, its place in the tree, and the indexes that it is handed.
use Rattle.std.proofs.Common.{◌≡◌, inl, inr, ⊎_elim, ℕ, zero, suc, ◌≤◌, ◌==◌, ℤ, List, [], ◌∷◌, ◌++◌, Option, Some}
use Rattle.std.proofs.Common.{None, Bool, true, false, if◌then◌else◌, length, refl, sym, ap, ◌∙◌, subst, arith}
use Rattle.std.proofs.Common.{eqb-true, eq-eqb}
use Rattle.std.specs.Prelude.{◌≢◌, ◌+ℤ◌, pos, slice_get}
use Rattle.std.proofs.lemmas.Option.{same_Some}
use Rattle.sp_tree.specs.declared.checked.Role.{Role}
use Rattle.sp_tree.specs.declared.checked.Role.TheVariants as role
use Rattle.sp_tree.specs.Cells.{variables_of}
use Rattle.sp_tree.specs.Plain.{Expr, Program, Variable, Block, Stmt, Parallel, Forall, Stmts, No, And}
use Rattle.sp_tree.specs.Uses.{Use, Target, CallOf, ParallelOf, ForallOf, Stop, In_stmt, In_stmts}
use Rattle.sp_tree.specs.Uses as use_of
use Rattle.sp_tree.specs.Interference.{IsMember}
use Rattle.sp_cell.specs.declared.spot.Spot.{Spot}
use Rattle.sp_cell.proofs.FrameLaws.{is_other}
use Rattle.sp_meaning.specs.Model.{Name}
use Rattle.sp_meaning.specs.LocalWork.{RunInput, Loc, Home, OfBlock, OfIndex, Frame}
use Rattle.sp_meaning.specs.Actions.{Birth, push, indexed_children}
use Rattle.sp_meaning.specs.Rights.{Linked, Aimed, Used, Sound}
use Rattle.sp_meaning.proofs.Within.{part}
use Rattle.sp_meaning.proofs.Children.{child_sound, index_linked}
use Rattle.sp_meaning.proofs.SoundParts.{element_sound}
use Rattle.sp_code.specs.declared.code.Layout.{Layout}
use Rattle.sp_code.specs.Memory.{last_frames}
use Rattle.sp_code.specs.Memory as m
use Rattle.sp_code.specs.System.{or_outward, spot_in, spot_from}
use Rattle.sp_code.specs.Tables.{child_at}
use Rattle.sp_code.specs.Places.{after_statement}
use Rattle.sp_code.specs.Scopes.{Scope, level, one_more, is_index, as_list, is_local, frame_of}
use Rattle.sp_code.specs.Scopes as s
use Rattle.sp_code.specs.TreeCode.{children_tables}
use Rattle.sp_code.specs.CodeOfTree.{CodeAt, HasFork, HasWords, StatementAt}
use Rattle.sp_codegen.specs.FramePairs.{FramePair, sources, machines, pairs_from, up_at, HomeIs, Chain}
use Rattle.sp_tree.specs.TreeShape.{IsFormed, IsFormedUse, is_parameter, is_answer, numbers_with_role}
use Rattle.sp_tree.proofs.Members.{member_either}
use Rattle.sp_codegen.specs.Executions.{Execution}
use Rattle.sp_codegen.proofs.FramePairs.{from_short}
pub use Rattle.sp_codegen.specs.ProcessInfos.{Seen}
pub use Rattle.sp_codegen.specs.Parents.{ChildIs}
use Rattle.sp_codegen.specs.Relation.{Placed}
use Rattle.sp_codegen.specs.MemoryRelation.{spot_at, HomesAre, Paired}
use Rattle.sp_codegen.proofs.FramePairs.{paired_from, last_machines, sources_length}
use Rattle.sp_codegen.proofs.Numbers.{AreKnown, are_known, frame_is}
use Rattle.sp_codegen.proofs.Returns.{Laid}
use Rattle.sp_codegen.proofs.ForkPlaces.{spot_no_frame, from_all}
use Rattle.sp_codegen.proofs.Follows.{slides, CodeFollows, push_follows}

-- the table of a child of a parallel
pub table_at : (p : Program) (moves shares : Stmt → List ℕ) (ss : Stmts) (q k : ℕ)
    → child_at (record { children = children_tables p moves shares q ss }) k
    ≡ slice_get (children_tables p moves shares q ss) k
table_at p moves shares No q k = refl
table_at p moves shares (And st rest) q k = refl

-- child k of a forall
pub indexed_is : (x : ℕ) (st : Stmt) (low : ℤ) (n k : ℕ) (b : Birth)
    → slice_get (indexed_children x st low n) k ≡ Some b
    → b ≡ record { todo = push st []; index = Some (x, low +ℤ pos k) }
indexed_is x st low zero k b e = absurd (cc e)
indexed_is x st low (suc n) zero b e = sym (cc e)
    ∙ ap (λ z. record { todo = push st []; index = Some (x, z) }) (nothing low)
  where
    nothing : (a : ℤ) → a ≡ a +ℤ pos 0
    nothing a = Prim.grind arith
indexed_is x st low (suc n) (suc k) b e = indexed_is x st (low +ℤ pos 1) n k b e
    ∙ ap (λ z. record { todo = push st []; index = Some (x, z) }) (one_on low k)
  where
    one_on : (a : ℤ) (k : ℕ) → (a +ℤ pos 1) +ℤ pos k ≡ a +ℤ pos (suc k)
    one_on a k = Prim.grind arith

-- ---- its place

module _ (g : RunInput) (W R : Loc → Type 0) (J : ℕ → Type 0) (sc : List Scope) (js : List FramePair) (V T : Loc
    → Type 0)
    (st : Stmt) (aims : (l : Loc) → Aimed g.program (sources js) st l → V l)
    (uses : (l : Loc) → Used g.program (sources js) st l → T l) where
  pub child_placed : (ss : Stmts) → Placed g W R J sc js (In_stmt (Parallel ss))
      → ((u : Use) → In_stmt st u → In_stmts ss u) → Placed g V T (Seen sc js st) sc js (In_stmt st)
  child_placed ss pl inside = record {
    chain = pl.chain;
    linked = pl.linked;
    sound = child_sound g.program W R V T (sources js) [] None st (part (λ u a. inr (inl (inside u a))) pl.sound) aims
        uses;
    formed = λ u a. pl.formed u (inr (inl (inside u a)));
    indexes = λ x up a l j rest e. (x, up, a, l, (j, rest, e, refl));
  }

  pub index_child_placed : (x : ℕ) (from1 to : Expr) → x ≢ 1 → Placed g W R J sc js (In_stmt (Forall x from1 to st))
      → (q : Name) (v : ℤ) (jx : FramePair) → jx.source
      ≡ record { owner = q; number = length js; home = OfIndex x v; link = length js; references = [] }
      → Placed g V T (Seen (s.OfIndex x ∷ sc) (jx ∷ js) st) (s.OfIndex x ∷ sc) (jx ∷ js) (In_stmt st)
  index_child_placed x from1 to input pl q v jx e = record {
    chain = (
      jx,
      js,
      refl,
      subst (λ z. HomeIs (s.OfIndex x) z) (sym (ap (λ (f : Frame). f.home) e)) refl,
      subst (λ z. Chain sc z) (sym (ap (λ (f : Frame). pairs_from f.link js) e ∙ from_all js)) pl.chain,
    );
    linked = subst (λ z. Linked (z ∷ sources js)) (sym new)
        (index_linked g.program (sources js) q (Some (x, v)) pl.linked);
    sound = subst (λ z. Sound g.program V T (z ∷ sources js) (In_stmt st)) (sym new)
        (child_sound g.program W R V T (sources js) q (Some (x, v)) st (element_sound x from1 to st pl.sound) aims
        uses);
    formed = λ u a. formed_by u a;
    indexes = λ y up a l j rest u. (y, up, a, l, (j, rest, u, refl));
  }
    where
      new : jx.source ≡ record {
        owner = q;
        number = length (sources js);
        home = OfIndex x v;
        link = length (sources js);
        references = [];
      }
      new = e ∙ ap (λ z. record { owner = q; number = z; home = OfIndex x v; link = z; references = [] })
          (sym (sources_length js))

      -- it has no target, and its index is not the output
      formed_by : (u : Use) → In_stmt st u → IsFormedUse g.program u
      formed_by (Target y) a = absurd ((pl.sound.kept (ForallOf x st) (inl refl)).1 y ([], a))
      formed_by (use_of.Seen y) a = go (x == y) refl
        where
          go : (b : Bool) → x == y ≡ b → y ≢ 1
          go true f = λ h. input (eqb-true x y f ∙ h)
          go false f = pl.formed (use_of.Seen y)
              (inr (inr (inr (inl (a, λ h. (let bad : false ≡ true = sym f ∙ eq-eqb x y h in absurd (cc bad)))))))
      formed_by (CallOf b args) a = pl.formed (CallOf b args) (inr (inr (inr (inl (a, tt)))))
      formed_by (ParallelOf ss) a = pl.formed (ParallelOf ss) (inr (inr (inr (inl (a, tt)))))
      formed_by (ForallOf y s) a = pl.formed (ForallOf y s) (inr (inr (inr (inl (a, tt)))))
      formed_by Stop a = pl.formed Stop (inr (inr (inr (inl (a, tt)))))

-- ---- its first step

module _ {M : Type 0} (ex : Execution M) where
  open ex use {
    run_input as g,
    code,
    moves,
    shares,
    IsCallableInFunctions as callable,
    Writes as W,
    IsReadable as R,
    Indexes as J,
  }

  -- a child's code is that of its statement, and then comes its end
  pub child_follows : (st : Stmt) (sc : List Scope) (entry : ℕ) (moved shared : List ℕ) (index : Option ℕ)
      (js : List FramePair) → Placed g W R J sc js (In_stmt st)
      → StatementAt g.program moves shares (CodeAt code) (HasFork code) (HasWords code) callable true sc entry st
      → CodeFollows ex (after_statement g.program entry st) [] js entry [] js (push st [])
  child_follows st sc entry moved shared index js pl h =
      push_follows ex st (after_statement g.program entry st) [] js sc entry [] js [] pl h (slides ex _ _, refl, refl)

-- ---- indexes

module _ (p : Program) (formed : IsFormed p) (ls : List Layout) (laid : Laid p ls) (Called : Name → ℕ → Type 0) (x : ℕ)
    (v : Variable) (ev : slice_get p.variables x ≡ Some v) (iv : v.role ≡ role.Index) where
  not_among : (fits : Role → Bool) → fits role.Index ≡ false → (xs : List (ℕ × Variable)) → AreKnown p formed xs
      → IsMember x (numbers_with_role fits xs) → ⊥
  not_among fits f [] k h = h
  not_among fits f (y ∷ ys) k h = go (fits y.1.role) refl (not_among fits f ys k.1) h
    where
      go : (c : Bool) → fits y.1.role ≡ c → (IsMember x (numbers_with_role fits ys) → ⊥)
          → IsMember x (if c then y.0 ∷ numbers_with_role fits ys else numbers_with_role fits ys) → ⊥
      go true e ih (inl a) =
          let vy : v ≡ y.1 = same_Some v y.1 (sym ev ∙ ap (λ z. slice_get p.variables z) a ∙ k.0) in
          let bad : false ≡ true = sym f ∙ ap fits (sym iv ∙ ap (λ (z : Variable). z.role) vy) ∙ e in
          absurd (cc bad)
      go true e ih (inr a) = ih a
      go false e ih a = ih a

  not_in_frame : (f : ℕ) (b : Block) → slice_get p.blocks f ≡ Some b → IsMember x (frame_of p f) → ⊥
  not_in_frame f b e h = ⊎_elim
      (λ (a : IsMember x (b.formals ++ as_list b.answer)). ⊎_elim
      (λ (c : IsMember x b.formals). not_among is_parameter refl vs (are_known p formed f)
      (subst (λ z. IsMember x z) (formed.formals f b e) c))
      (λ (c : IsMember x (as_list b.answer)). not_among is_answer refl vs (are_known p formed f)
      (subst (λ z. IsMember x z) (formed.answers f b e) c))
      (member_either x b.formals (as_list b.answer) a))
      (λ (a : IsMember x (numbers_with_role is_local vs)). not_among is_local refl vs (are_known p formed f) a)
      (member_either x (b.formals ++ as_list b.answer) (numbers_with_role is_local vs)
      (subst (λ z. IsMember x z) (frame_is p formed f b e) h))
    where
      vs : List (ℕ × Variable)
      vs = variables_of f 0 p.variables

  pub index_spot : (sc : List Scope) (n : ℕ) (js : List FramePair) → Chain sc js → Paired p Called js → length js ≤ n
      → (up : ℕ) → level (is_index x) sc ≡ Some up → (j : FramePair) (rest : List FramePair) → up_at up js ≡ j ∷ rest
      → spot_from ls n (machines js) x ≡ Some (spot_at j.machine.number 0)
  index_spot [] n js ch pa l up e j rest u = absurd (cc e)
  index_spot (sp ∷ sc) n [] ch pa l up e j rest u = let z : [] ≡ ch.0 ∷ ch.1 = ch.2 in absurd (cc z)
  index_spot (sp ∷ sc) zero (k ∷ js) ch pa l up e j rest u = absurd (omega (arith, l))
  index_spot (sp ∷ sc) (suc n) (k ∷ js) (joint, over, list_is, home_is, further_out)
      (pair, others) l up e j rest u =
      by_test (λ z d a b c f g. index_spot sc n z d a b c f j rest g) (is_index x sp) refl e
    where
      same : (k ≡ joint) × (js ≡ over)
      same = (ap (λ z. a_joint z) list_is, ap (λ z. rest_of z) list_is)
        where
          a_joint : List FramePair → FramePair
          a_joint [] = k
          a_joint (i ∷ is) = i

          rest_of : List FramePair → List FramePair
          rest_of [] = []
          rest_of (i ∷ is) = is

      home : HomeIs sp k.source.home
      home = subst (λ (z : FramePair). HomeIs sp z.source.home) (sym same.0) home_is

      outward : Chain sc (pairs_from k.source.link js)
      outward = subst (λ z. Chain sc (pairs_from k.source.link z)) (sym same.1)
          (subst (λ (z : FramePair). Chain sc (pairs_from z.source.link over)) (sym same.0) further_out)

      outer : Option Spot
      outer = spot_from ls n (last_frames k.machine.link (machines js)) x

      outer_is : outer ≡ spot_from ls n (machines (pairs_from k.source.link js)) x
      outer_is = ap (λ z. spot_from ls n (last_frames z (machines js)) x) (sym pair.link_is)
          ∙ ap (λ z. spot_from ls n z x) (last_machines k.source.link js pair.link_low)

      here : (t : Scope) (a : Home) (c : m.Home) → HomeIs t a → HomesAre p a c → is_index x t ≡ true
          → spot_in ls k.machine c x ≡ Some (spot_at k.machine.number 0)
      here (s.OfBlock b) a c hi ho t = absurd (cc t)
      here (s.OfIndex y) (OfBlock b) c hi ho t = absurd hi
      here (s.OfIndex y) (OfIndex z w) (m.OfBlock c) hi ho t = absurd ho
      here (s.OfIndex y) (OfIndex z w) (m.OfIndex c) hi ho t =
          ap (λ b. if b then Some (record { frame = k.machine.number; variable = 0 }) else None)
          (eq-eqb x c (eqb-true x y t ∙ hi ∙ ho.0))

      not_here : (t : Scope) (a : Home) (c : m.Home) → HomeIs t a → HomesAre p a c → is_index x t ≡ false
          → spot_in ls k.machine c x ≡ None
      not_here t (OfBlock a) (m.OfBlock c) hi (same_block, (block, known)) f =
          spot_no_frame p formed ls laid k.machine c block x (ap (λ z. slice_get p.blocks z) (sym same_block) ∙ known)
          (not_in_frame c block (ap (λ z. slice_get p.blocks z) (sym same_block) ∙ known))
      not_here t (OfBlock a) (m.OfIndex c) hi ho f = absurd ho
      not_here t (OfIndex z w) (m.OfBlock c) hi ho f = absurd ho
      not_here (s.OfBlock b) (OfIndex z w) (m.OfIndex c) hi ho f = absurd hi
      not_here (s.OfIndex y) (OfIndex z w) (m.OfIndex c) hi ho f =
          ap (λ b. if b then Some (record { frame = k.machine.number; variable = 0 }) else None)
          (is_other x c (λ d. let bad : false ≡ true = sym f ∙ eq-eqb x y (d ∙ sym (hi ∙ ho.0)) in absurd (cc bad)))

      by_test : ((z : List FramePair) → Chain sc z → Paired p Called z → length z ≤ n → (a : ℕ)
          → level (is_index x) sc ≡ Some a → up_at a z ≡ j ∷ rest
          → spot_from ls n (machines z) x ≡ Some (spot_at j.machine.number 0)) → (b : Bool) → is_index x sp ≡ b
          → (if b then Some 0 else one_more (level (is_index x) sc)) ≡ Some up
          → or_outward (spot_in ls k.machine k.machine.home x) outer ≡ Some (spot_at j.machine.number 0)
      by_test ih true t d =
          let zero_up : 0 ≡ up = cc d in
          let kj : k ∷ js ≡ j ∷ rest = ap (λ z. up_at z (k ∷ js)) zero_up ∙ u in
          ap (λ z. or_outward z outer) (here sp k.source.home k.machine.home home pair.homes t)
          ∙ ap (λ (z : FramePair). Some (spot_at z.machine.number 0)) (first_of kj)
        where
          first_of : k ∷ js ≡ j ∷ rest → k ≡ j
          first_of e = cc e
      by_test ih false t d = ap (λ z. or_outward z outer) (not_here sp k.source.home k.machine.home home pair.homes t)
          ∙ outer_is ∙ further (level (is_index x) sc) refl d
        where
          further : (o : Option ℕ) → level (is_index x) sc ≡ o → one_more o ≡ Some up
              → spot_from ls n (machines (pairs_from k.source.link js)) x ≡ Some (spot_at j.machine.number 0)
          further None f d = absurd (cc d)
          further (Some a) f d =
              let above : suc a ≡ up = cc d in
              let sh = from_short k.source.link js in
              ih (pairs_from k.source.link js) outward (paired_from p Called k.source.link js others)
              (omega (arith, l, sh)) a f
              (ap (λ z. up_at z (k ∷ js)) above ∙ u)
