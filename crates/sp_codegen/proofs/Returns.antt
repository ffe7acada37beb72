-- A return: the frame goes and all else stands, and the result of a function is that of the meaning.
use Rattle.sp_tree.specs.Interference.{IsMember}
use Rattle.std.proofs.Common.{◌≡◌, ◌⊎◌, inl, inr, ⊎_elim, ℕ, suc, ◌+◌, ◌<◌, ◌≤◌, ◌==◌, List, [], ◌∷◌, ◌++◌, Some, None}
use Rattle.std.proofs.Common.{Bool, true, false, ◌&&◌, if◌then◌else◌, length, refl, sym, ap, ◌∙◌, subst, arith}
use Rattle.std.proofs.Common.{eqb-true, eq-eqb, zero-add}
use Rattle.std.specs.Prelude.{◌-◌, ◌≢◌, IsSome, sum, slice_get, take}
use Rattle.std.proofs.lemmas.List.{append_assoc}
use Rattle.std.specs.FinMap as fin
use Rattle.std.proofs.lemmas.Bool.{cases_eq}
use Rattle.sp_base.proofs.Facts.{is_plus_none, length_of_map, take_front}
use Rattle.sp_tree.specs.declared.checked.Role.{Role}
use Rattle.sp_tree.specs.declared.checked.Role.TheVariants as role
use Rattle.sp_tree.specs.Cells.{variables_of}
use Rattle.sp_tree.specs.Plain.{Program, Variable, Block}
use Rattle.sp_cell.specs.declared.spot.Spot.{Spot}
use Rattle.sp_cell.specs.declared.spot.Address.{Address}
use Rattle.sp_cell.specs.Frame.{last_own_frame, without_newest_frame}
use Rattle.sp_cell.proofs.FrameLaws.{without_here, without_other, newest_last}
use Rattle.sp_cell.specs.Map.{Plain, Away, output_spot}
use Rattle.sp_meaning.specs.Model.{Name, Channel}
use Rattle.sp_meaning.specs.LocalWork.{RunInput, Loc, Input, Output, OfBlock, OfIndex, LocalState, Identity}
use Rattle.sp_meaning.specs.LocalWork as own
use Rattle.sp_meaning.specs.Eval.{in_frame}
use Rattle.sp_meaning.specs.Actions as source
use Rattle.sp_meaning.specs.Run.{Store}
use Rattle.sp_code.specs.declared.code.Layout.{Layout}
use Rattle.sp_code.specs.declared.code.Parts.{Parts as Code}
use Rattle.sp_code.specs.Machine.{layout_of}
use Rattle.sp_code.specs.Memory.{Memory, answer_in, answer_by, answer_of, can_pop, cells_of_home, sizes_of, cell_at}
use Rattle.sp_code.specs.Memory.{position_at}
use Rattle.sp_code.specs.Memory as m
use Rattle.sp_code.specs.PlainStore.{plain, piece_of, is_newest, none_away}
use Rattle.sp_code.specs.Scopes.{as_list, is_local, index_among, frame_of, slot, slot_in}
use Rattle.sp_code.specs.TreeCode as emitted
use Rattle.sp_codegen.specs.FramePairs.{FramePair, sources, machines, pairs_from}
use Rattle.sp_tree.specs.TreeShape.{IsFormed, is_parameter, numbers_with_role}
use Rattle.sp_codegen.specs.Relation.{Owns}
use Rattle.sp_codegen.specs.MemoryRelation.{HomesAre, spot_at, PointsTo, HoldsIn, made_frames}
use Rattle.sp_codegen.specs.TurnAgrees.{code_run}
use Rattle.sp_codegen.proofs.Shapes.{whole}
use Rattle.sp_codegen.proofs.Slots.{slot_is}
use Rattle.sp_codegen.proofs.FramePairs.{from_push, from_here, from_length, from_cases}
use Rattle.sp_codegen.proofs.Numbers.{made_own, in_made, is_newest_is, none_away_is, are_known}
use Rattle.sp_codegen.proofs.Numbers.{AreKnown, frame_is, frame_cells}
use Rattle.sp_codegen.proofs.Locations.{St, ops, live_push}
use Rattle.sp_codegen.proofs.Contents.{none_unknown}

-- ---- the number of a result

abbrev pub Laid : Program → List Layout → Type 0
Laid p ls = (f : ℕ) (b : Block) → slice_get p.blocks f ≡ Some b → (l : Layout) × (layout_of ls f ≡ Some l)
    × (l ≡ emitted.layout_of p f l.entry b)

pub index_behind : (x n : ℕ) (xs ys : List ℕ) → (IsMember x xs → ⊥) → index_among x n (xs ++ x ∷ ys) ≡ n + length xs
index_behind x n [] ys h = ap (λ b. if b then n else index_among x (suc n) ys) (eq-eqb x x refl) ∙ is_plus_none n
index_behind x n (z ∷ xs) ys h = go (x == z) refl (index_behind x (suc n) xs ys (λ i. h (inr i)))
  where
    go : (b : Bool) → x == z ≡ b → index_among x (suc n) (xs ++ x ∷ ys) ≡ suc n + length xs
        → (if b then n else index_among x (suc n) (xs ++ x ∷ ys)) ≡ n + length (z ∷ xs)
    go true e ih = absurd (h (inl (eqb-true x z e)))
    go false e ih = omega (arith, ih)

module _ (p : Program) (formed : IsFormed p) where
  -- a number among those of a role is that of a variable with it
  pub among_role : (fits : Role → Bool) (x : ℕ) (xs : List (ℕ × Variable)) → AreKnown p formed xs
      → IsMember x (numbers_with_role fits xs) → (v : Variable) × (slice_get p.variables x ≡ Some v)
      × (fits v.role ≡ true)
  among_role fits x [] k h = absurd h
  among_role fits x (y ∷ ys) k h = go (fits y.1.role) refl (among_role fits x ys k.1) h
    where
      go : (b : Bool) → fits y.1.role ≡ b → (IsMember x (numbers_with_role fits ys) → (v : Variable)
          × (slice_get p.variables x ≡ Some v) × (fits v.role ≡ true))
          → IsMember x (if b then y.0 ∷ numbers_with_role fits ys else numbers_with_role fits ys) → (v : Variable)
          × (slice_get p.variables x ≡ Some v) × (fits v.role ≡ true)
      go true e ih (inl i) = (y.1, ap (λ z. slice_get p.variables z) i ∙ k.0, e)
      go true e ih (inr i) = ih i
      go false e ih i = ih i

  abbrev start : Bool → ℕ
  start b = if b then 2 else 0

  no_program : (k : ℕ) (b : Block) (x : ℕ) → slice_get p.blocks k ≡ Some b → b.answer ≡ Some x → start (k == 0) ≡ 0
  no_program k b x e a = go (k == 0) refl
    where
      go : (t : Bool) → k == 0 ≡ t → start t ≡ 0
      go true t = let z = (formed.program b (ap (λ y. slice_get p.blocks y) (sym (eqb-true k 0 t)) ∙ e)).2 in
          let y : None ≡ Some x = sym z ∙ a in absurd (cc y)
      go false t = refl

  answer_slot : (k : ℕ) (b : Block) (x : ℕ) (v : Variable) → slice_get p.blocks k ≡ Some b → b.answer ≡ Some x
      → slice_get p.variables x ≡ Some v → v.role ≡ role.Answer → v.block ≡ k → slot p x ≡ length b.formals
  answer_slot k b x v eb ea ev er ek =
      let ls = numbers_with_role is_local (variables_of k 0 p.variables) in
      slot_is p formed x v ev ∙ ap (λ y. slot_in p y x) ek
      ∙ ap (λ y. index_among x y (frame_of p k)) (no_program k b x eb ea)
      ∙ ap (λ y. index_among x 0 y) (frame_is p formed k b eb ∙ ap (λ y. (b.formals ++ as_list y) ++ ls) ea
      ∙ append_assoc b.formals (x ∷ []) ls)
      ∙ index_behind x 0 b.formals ls no ∙ zero-add (length b.formals)
    where
      no : IsMember x b.formals → ⊥
      no i =
          let r = among_role is_parameter x (variables_of k 0 p.variables) (are_known p formed k)
          (subst (λ y. IsMember x y) (formed.formals k b eb) i) in
          let s : Some r.0 ≡ Some v = sym r.1 ∙ ev in
          let q : r.0 ≡ v = cc s in
          let z : false ≡ true = sym (ap is_parameter (ap (λ (y : Variable). y.role) q ∙ er)) ∙ r.2 in
          absurd (cc z)

pub home_block : (p : Program) (k : ℕ) (h : m.Home) → HomesAre p (OfBlock k) h → h ≡ m.OfBlock k
home_block p k (m.OfBlock c) e = ap m.OfBlock (sym e.0)
home_block p k (m.OfIndex x) e = absurd e

module _ (g : RunInput) (code : Code) (w : Identity) (Named : Channel → ℕ → Type 0) (Called : Name → ℕ → Type 0)
    (W R : Loc → Type 0) (J : ℕ → Type 0) (low base born since pause : ℕ) (moved : List Spot)
    (formed : IsFormed g.program) (laid : Laid g.program code.layouts) (based : 1 ≤ base) where
  abbrev p : Program
  p = g.program

  abbrev S : List FramePair → LocalState → Store → Memory Plain → Type 0
  S js o s n = St g code w Named Called W R J low base born since pause moved formed js o s n

  abbrev Ho : List FramePair → ℕ → Type 0
  Ho js h = HoldsIn g.program R J base js h

  pub result_law : {j : FramePair} {js : List FramePair} {o : LocalState} {s : Store} {n : Memory Plain}
      → S (j ∷ js) o s n
      → (b : Block) (k x : ℕ) (v : Variable) → j.source.home ≡ OfBlock k → slice_get p.blocks k ≡ Some b
      → b.answer ≡ Some x → slice_get p.variables x ≡ Some v → v.role ≡ role.Answer → v.block ≡ k
      → (a : Address) × ((ops g code w Named Called W R J low base born since pause moved formed).answer n ≡ Some a)
      × PointsTo p (j ∷ js) (in_frame g x v j.source) a
  result_law {j} {js} {o} {s} {n} t b k x v hj eb ea ev er ek =
      let pair = t.frames.paired.0 in
      let mh : j.machine.home ≡ m.OfBlock k =
      home_block p k j.machine.home (subst (λ y. HomesAre p y j.machine.home) hj pair.homes) in
      let l = laid k b eb in
      let len : length l.0.formals ≡ slot p x = ap (λ (y : Layout). length y.formals) l.2 ∙ length_of_map _ b.formals
      ∙ sym (answer_slot p formed k b x v eb ea ev er ek) in (
        cell_at j.machine.number (slot p x),
        ap (λ fs. answer_in code.layouts fs) t.frames.machines_are
            ∙ ap (λ y. answer_of code.layouts j.machine.number y) mh
            ∙ ap (λ y. answer_by j.machine.number y) l.1 ∙ ap (λ y. Some (cell_at j.machine.number y)) len,
        record {
          owner = j.source.owner;
          frame = j.source.number;
          variable = x;
          cell_is = refl;
          live = record {
            info = v;
            known = ev;
            owns = subst Owns (sym er) tt;
            joint = j;
            rest = js;
            frame_at = subst (λ y. pairs_from (suc y) (j ∷ js) ≡ j ∷ js) (sym pair.number_is) (from_here j js);
            owner_is = refl;
            home = hj ∙ ap OfBlock (sym ek);
          };
          spot_is = refl;
          reaches = whole p v.kind;
          typed = formed.kinds x v ev;
        },
      )

  -- what is held below is held with the frame too
  holds_push : (j : FramePair) (js : List FramePair) (h : ℕ) → Ho js h → Ho (j ∷ js) h
  holds_push j js h (inl (owner, variable, live, may)) =
      inl (owner, variable, live_push p j js owner h variable live, may)
  holds_push j js h (inr (inl (may, (frame, rest, variable, value, from, home)))) = inr (inl
      (may, (frame, rest, variable, value, from_push (suc h) j js frame rest from, home)))
  holds_push j js h (inr (inr x)) = inr (inr x)

  homes_cells : (a : own.Home) (b : m.Home) → HomesAre p a b → source.cells_of_home g a ≡ cells_of_home code.layouts b
  homes_cells (OfBlock b) (m.OfBlock c) (same, (block, known)) =
      let l = laid b block known in
      sym (frame_cells p formed b block known) ∙ ap (λ (y : Layout). sum y.sizes) (sym l.2)
      ∙ ap (λ y. sum (sizes_of y)) (sym l.1) ∙ ap (λ y. sum (sizes_of (layout_of code.layouts y))) same
  homes_cells (OfBlock b) (m.OfIndex x) e = absurd e
  homes_cells (OfIndex x v) (m.OfBlock c) e = absurd e
  homes_cells (OfIndex x v) (m.OfIndex y) e = refl

  pub close_law : {j : FramePair} {js : List FramePair} {o : LocalState} {s : Store} {n : Memory Plain}
      → S (j ∷ js) o s n
      → base ≤ length js
      → ((ops g code w Named Called W R J low base born since pause moved formed).may_close n ≡ true)
      × S js (source.without_frame g o.frames o) s
      ((ops g code w Named Called W R J low base born since pause moved formed).close_frame n)
  close_law {j} {js} {o} {s} {n} t l = (
    ap (λ fs. can_pop plain (code_run g code pause) fs n.store)
        t.frames.machines_are
        ∙ ap (λ ns. is_newest ns j.machine.number && none_away n.store.map j.machine.number) own_is
        ∙ ap (λ b. b && none_away n.store.map j.machine.number) (is_newest_is (made_frames base js) j.machine.number)
        ∙ none_away_is n.store.map j.machine.number t.unaway,
    subst (λ fs. S js (source.without_frame g fs o) s
        (m.without_frame plain (code_run g code pause) n.frames
        n)) (sym t.frames.sources_are)
        (subst (λ fs. S js (source.without_frame g (sources (j ∷ js)) o) s
        (m.without_frame plain (code_run g code pause) fs n))
        (sym t.frames.machines_are) after),
  )
    where
      number : ℕ
      number = j.machine.number

      own_is : n.store.own ≡ made_frames base js ++ number ∷ []
      own_is = t.frames.own_frames ∙ made_own base j js l

      newest_number : last_own_frame n.store.own ≡ number
      newest_number = ap last_own_frame own_is ∙ newest_last (made_frames base js) number

      -- a spot of another frame is as it was
      other : (q : Spot) → q.frame ≢ number → fin.get (without_newest_frame n.store).map q ≡ fin.get n.store.map q
      other q d = without_other n.store.map (last_own_frame n.store.own) q (λ e. d (e ∙ newest_number))

      gone : (q : Spot) → q.frame ≡ number → fin.get (without_newest_frame n.store).map q ≡ None
      gone q e = without_here n.store.map (last_own_frame n.store.own) q (e ∙ sym newest_number)

      -- what is held below stands in other frames
      apart_from : (h : ℕ) (i : FramePair) (is : List FramePair) → pairs_from (suc h) js ≡ i ∷ is → Ho js h
          → i.machine.number ≢ number
      apart_from h i is e ho d =
          let b = (from_length (suc h) js i is e).1 in
          let same : h ≡ length js = t.frames.apart h (length js) i j is js (from_push (suc h) j js i is e)
          (from_here j js)
          (holds_push j js h ho) (inr (inr (inr l))) d in
          absurd (omega (arith, b, same))

      after : S js (record o {
        frames = sources js;
        depth = o.depth - 1;
        cells = o.cells - source.cells_of_home g j.source.home;
      }) s
          (record n {
            frames = machines js;
            depth = n.depth - 1;
            cells = n.cells - cells_of_home code.layouts j.machine.home;
            store = without_newest_frame n.store;
          })
      after =
          let (pair, others) = t.frames.paired in
          record {
            frames = record {
              sources_are = refl;
              machines_are = refl;
              paired = others;
              process = t.frames.process;
              owners = t.frames.owners.1;
              depth = ap (λ z. z - 1) t.frames.depth;
              cells = ap (λ z. z - source.cells_of_home g j.source.home) t.frames.cells
                  ∙ ap (λ z. n.cells - z) (homes_cells j.source.home j.machine.home pair.homes);
              fits = let a = t.frames.fits in omega (arith, a);
              shallow = let a = t.frames.shallow in omega (arith, a);
              own_frames = ap (λ ns. take (length ns - 1) ns) own_is ∙ take_front (made_frames base js) number;
              above_base = l;
              deep = let a = t.frames.deep in omega (arith, a, l);
              counts = t.frames.counts.1;
              apart = λ h k i i2 is is2 e e2 a b d. t.frames.apart h k i i2 is is2 (from_push (suc h) j js i is e)
                  (from_push (suc k) j js i2 is2 e2) (holds_push j js h a) (holds_push j js k b) d;
              root = λ i rest e. t.frames.root i rest (from_push 1 j js i rest e);
              bottom = λ rc. let (lowest, rest, from, number_is) = t.frames.bottom rc in
                  ⊎_elim (λ (c : (1 ≡ suc (length js)) × (j ∷ js ≡ lowest ∷ rest)). absurd
                  (omega (arith, c.0, l, based)))
                  (λ (c : pairs_from 1 js ≡ lowest ∷ rest). (lowest, rest, c, number_is))
                  (from_cases 1 j js lowest rest from);
            };
            ticks = t.ticks;
            since_is = t.since_is;
            moved_is = t.moved_is;
            known = λ q k. ⊎_elim
                (λ (e : q.frame ≡ number). absurd (none_unknown (fin.get (without_newest_frame n.store).map q)
                (gone q e) k))
                (λ (d : q.frame ≢ number). ⊎_elim (λ (x : q.frame < low). inl x)
                (λ (x : IsMember q.frame (made_frames base (j ∷ js))). ⊎_elim
                (λ (y : IsMember q.frame (made_frames base js)). inr y)
                (λ (y : q.frame ≡ number). absurd (d y)) (in_made base j js q.frame l x))
                (t.known q (subst IsSome (other q d) k)))
                (cases_eq q.frame number);
            unaway = λ q e. ⊎_elim (λ (i : q.frame ≡ number).
                (let z : None ≡ Some Away = sym (gone q i) ∙ e in absurd (cc z)))
                (λ (d : q.frame ≢ number). t.unaway q (sym (other q d) ∙ e)) (cases_eq q.frame number);
            held = λ q h x v r. let z = t.held q h x (live_push p j js q h x v) r in
                record {
                  tree = z.tree;
                  tree_is = z.tree_is;
                  cells = z.cells;
                  piece = ap piece_of (other (spot_at v.joint.machine.number (slot p x))
                      (apart_from h v.joint v.rest v.frame_at (inl (q, x, v, r)))) ∙ z.piece;
                  flat = z.flat;
                };
            indexes = λ h jh i rest x v e hi. ap piece_of
                (other (spot_at i.machine.number 0) (apart_from h i rest e (inr (inl (jh, (i, rest, x, v, e, hi))))))
                ∙ t.indexes h jh i rest x v (from_push (suc h) j js i rest e) hi;
            position = λ ri. let z = t.position ri in
                (z.0, z.1, ap piece_of (other position_at.spot (console (inl ri))) ∙ z.2);
            output = λ ro. let z = t.output ro in (z.0, z.1, other output_spot (console (inr ro)) ∙ z.2);
          }
        where
          console : R Input ⊎ R Output → 0 ≢ number
          console rc e =
              let (frame, rest, from, number_is) = t.frames.bottom rc in
              let same : 0 ≡ length js = t.frames.apart 0 (length js) frame j rest js from (from_here j js)
              (inr (inr (inl (rc, refl)))) (inr (inr (inr l))) (number_is ∙ e) in
              absurd (omega (arith, same, l, based))
