-- A call as a whole: its counts, its frame and its arguments by value.
use Rattle.sp_tree.specs.Interference.{IsMember}
use Rattle.std.proofs.Common.{◌≡◌, inl, inr, ℕ, suc, ◌+◌, ◌≤◌, List, [], ◌∷◌, Some, Bool, true, false, ◌&&◌}
use Rattle.std.proofs.Common.{if◌then◌else◌, length, refl, sym, ap, ◌∙◌, subst, arith}
use Rattle.std.specs.Prelude.{sum, nat_le, nat_lt, slice_get}
use Rattle.std.proofs.lemmas.Bool.{le-leb, ltb-false}
use Rattle.sp_base.specs.declared.fault.Fault.TheVariants as fault
use Rattle.sp_base.proofs.Facts.{next_is_within}
use Rattle.sp_tree.specs.declared.checked.Role.TheVariants as role
use Rattle.sp_tree.specs.Cells.{variables_of}
use Rattle.sp_tree.specs.Plain.{Program, Variable, Block}
use Rattle.sp_cell.specs.declared.spot.Spot.{Spot}
use Rattle.sp_cell.specs.declared.cell.Cell.TheVariants as cell
use Rattle.sp_cell.specs.declared.spot.Address.{Address}
use Rattle.sp_cell.specs.Frame.{next_frame, with_new_frame}
use Rattle.sp_cell.specs.Map.{Plain}
use Rattle.sp_meaning.specs.EffectTree.{run_tree, and_then}
use Rattle.sp_meaning.specs.Maps.{at_key}
use Rattle.sp_meaning.specs.Model.{Name, Channel}
use Rattle.sp_meaning.specs.LocalWork.{RunInput, Loc, Cell, Tree, OfBlock, LocalState, Identity, WorkOutcome, Computed}
use Rattle.sp_meaning.specs.LocalWork.{Work, bind, give, fail, set_local_state}
use Rattle.sp_meaning.specs.LocalWork.{go_on, local_state, who, seek, is_block, same_loc, tick, deepen, widen}
use Rattle.sp_meaning.specs.LocalWork.{or_ill_formed, frame_link}
use Rattle.sp_meaning.specs.Eval.{ArgumentValue, ValueOf, PlaceOf}
use Rattle.sp_meaning.specs.Actions.{enter, lay, copy_in, references, pushed_frame, enclosing_link, size_of_frame}
use Rattle.sp_meaning.specs.Run.{Store, run}
use Rattle.sp_meaning.proofs.Run.{then_run, run_bind}
use Rattle.sp_code.specs.declared.code.Layout.{Layout}
use Rattle.sp_code.specs.declared.code.Parts.{Parts as Code}
use Rattle.sp_code.specs.Machine.{Entry, MemoryResult, Done, Failed, fit_formals}
use Rattle.sp_code.specs.Memory.{Memory, with_store, with_arguments, put_cell, put_cells, frames_up, cell_at, is_there}
use Rattle.sp_code.specs.Memory.{memory_after_call}
use Rattle.sp_code.specs.Memory as m
use Rattle.sp_code.specs.PlainStore.{plain}
use Rattle.sp_code.specs.Scopes.{Sort, Ordinals, Channels, Many, NoSort, sort, slot}
use Rattle.sp_code.specs.TreeCode as emitted
use Rattle.sp_codegen.specs.FramePairs.{FramePair, sources, up_at}
use Rattle.sp_tree.specs.TreeShape.{IsFormed}
use Rattle.sp_codegen.specs.Relation.{Relation, Owns, OneCell as IsOneCell, StackHolds, GivensAre, frame_for}
use Rattle.sp_codegen.specs.Relation.{CallMatches}
use Rattle.sp_codegen.specs.Relation.{cell_of}
use Rattle.sp_codegen.specs.MemoryRelation.{PointsTo, relation}
use Rattle.sp_codegen.specs.TurnAgrees.{code_run}
use Rattle.sp_codegen.proofs.Shapes.{whole}
use Rattle.sp_codegen.proofs.FramePairs.{from_here, sources_length}
use Rattle.sp_codegen.proofs.Numbers.{frame_cells, next_small}
use Rattle.sp_codegen.proofs.Locations.{St, ops, outward}
use Rattle.sp_codegen.proofs.Stores.{store_law, put_cells_law}
use Rattle.sp_codegen.proofs.FrameStores.{Numbered, laid, run_lay}
use Rattle.sp_codegen.proofs.CallFrames.{formal_of_block, formals_numbered, fit_law, stands_new}

module _ (g : RunInput) (code : Code) (w : Identity) (Named : Channel → ℕ → Type 0) (Called : Name → ℕ → Type 0)
    (W R : Loc → Type 0) (J : ℕ → Type 0) (low base born since pause : ℕ) (moved : List Spot)
    (formed : IsFormed g.program) (based : 1 ≤ base) (mine_read : (n x : ℕ) → R (Cell w.name n x))
    (room : low + g.limits.depth ≤ 18446744073709551615 + born) where
  abbrev p : Program
  p = g.program

  abbrev S : List FramePair → LocalState → Store → Memory Plain → Type 0
  S js o s n = St g code w Named Called W R J low base born since pause moved formed js o s n

  abbrev rel : Relation (Memory Plain)
  rel = relation g code w Named Called W R J low base born since pause moved

  -- ---- the arguments by value are copied

  pub record Copied (js1 : List FramePair) (number k height : ℕ) (o : LocalState) (s : Store) (n : Memory Plain)
      (xs : List ℕ)
      (gs : List ArgumentValue) (es : List Entry) : Type 0 where
    pub store : Store
    pub runs : ◌≡◌ {A = WorkOutcome (Unit {0}) × Store} (run (copy_in g height xs gs) w o s) (Computed tt o, store)
    pub stands : S js1 o store (with_store plain n (with_arguments plain number k es n.store))

  module _ (j : FramePair) (js : List FramePair) (f : ℕ) (home : j.source.home ≡ OfBlock f)
      (number_is : j.source.number ≡ length js) (owner_is : j.source.owner ≡ w.name) where
    -- a parameter's variable
    points_new : (x : ℕ) (v : Variable) → slice_get p.variables x ≡ Some v → v.role ≡ role.Value → v.block ≡ f
        → PointsTo p (j ∷ js) (record { spot = Cell w.name (length js) x; path = []; kind = v.kind })
        (cell_at j.machine.number (slot p x))
    points_new x v ev rv bv = record {
      owner = w.name;
      frame = length js;
      variable = x;
      cell_is = refl;
      live = record {
        info = v;
        known = ev;
        owns = subst Owns (sym rv) tt;
        joint = j;
        rest = js;
        frame_at = from_here j js;
        owner_is = owner_is;
        home = home ∙ ap OfBlock (sym bv);
      };
      spot_is = refl;
      reaches = whole p v.kind;
      typed = formed.kinds x v ev;
    }

    copy_law : (xs : List ℕ) (gs : List ArgumentValue) (es : List Entry) (k : ℕ) → GivensAre rel p js xs gs es
        → Numbered p formed k xs → ((x : ℕ) → IsMember x xs → (v : Variable) × (slice_get p.variables x ≡ Some v)
        × (v.block ≡ f)) → (o : LocalState) (s : Store) (n : Memory Plain) → S (j ∷ js) o s n
        → Copied (j ∷ js) j.machine.number k (length js) o s n xs gs es
    copy_law [] [] [] k h nu of o s n t = record { store = s; runs = refl; stands = t }
    copy_law [] [] (e ∷ es) k h nu of o s n t = absurd h
    copy_law [] (y ∷ gs) es k h nu of o s n t = absurd h
    copy_law (x ∷ xs) [] es k h nu of o s n t = absurd h
    copy_law (x ∷ xs) (y ∷ gs) [] k h nu of o s n t = absurd h
    copy_law (x ∷ xs) (PlaceOf a ∷ gs) (e ∷ es) k ((_, _, (_, _, (_, entry_is, _))), others) nu of o s n t =
        let r = copy_law xs gs es (suc k) others nu.1 (λ z i. of z (inr i)) o s n t in
        record {
          store = r.store;
          runs = r.runs;
          stands = subst (λ z. S (j ∷ js) o r.store
              (with_store plain n (with_arguments plain j.machine.number k (z ∷ es) n.store))) (sym entry_is) r.stands;
        }
    copy_law (x ∷ xs) (ValueOf u ∷ gs) (e ∷ es) k ((v, known, (role_is, stood)), others) nu of o s n t =
        by_sort (sort p v.kind) refl stood
        (λ n1 t1. copy_law xs gs es (suc k) others nu.1 (λ z i. of z (inr i)) o s1 n1 t1)
      where
        at : Address
        at = cell_at j.machine.number k

        s1 : Store
        s1 = at_key same_loc (Cell w.name (length js) x) (Tree u) s

        same : v.block ≡ f
        same = let q = of x (inl refl) in let z : Some v ≡ Some q.0 = sym known ∙ q.1 in let y : v ≡ q.0 = cc z in
            ap (λ (i : Variable). i.block) y ∙ q.2

        points : PointsTo p (j ∷ js) (record { spot = Cell w.name (length js) x; path = []; kind = v.kind }) at
        points = subst (λ i. PointsTo p (j ∷ js) (record { spot = Cell w.name (length js) x; path = []; kind = v.kind })
            (cell_at j.machine.number i)) nu.0 (points_new x v known role_is same)

        one : (z : Sort) → sort p v.kind ≡ z → IsOneCell z → StackHolds rel p z v.kind u e
            → S (j ∷ js) o s1 (with_store plain n (put_cell plain at (cell_of e) n.store))
        one z i c st = store_law g code w Named Called W R J low base born since pause moved formed t
            (record { spot = Cell w.name (length js) x; path = []; kind = v.kind }) at points (mine_read (length js) x)
            (subst IsOneCell (sym i) c) u e (subst (λ y. StackHolds rel p y v.kind u e) (sym i) st)

        by_sort : (z : Sort) → sort p v.kind ≡ z → StackHolds rel p z v.kind u e
            → ((n1 : Memory Plain) → S (j ∷ js) o s1 n1
            → Copied (j ∷ js) j.machine.number (suc k) (length js) o s1 n1 xs gs es)
            → Copied (j ∷ js) j.machine.number k (length js) o s n (x ∷ xs) (ValueOf u ∷ gs) (e ∷ es)
        by_sort Ordinals i (n_is, value_is, entry_is) ih =
            let a = one Ordinals i tt (n_is, value_is, entry_is) in
            let r = ih (with_store plain n (put_cell plain at (cell.Ordinal n_is) n.store))
            (subst (λ y. S (j ∷ js) o s1 (with_store plain n (put_cell plain at (cell_of y) n.store))) entry_is a) in
            record {
              store = r.store;
              runs = r.runs;
              stands = subst (λ y. S (j ∷ js) o r.store
                  (with_store plain n (with_arguments plain j.machine.number k (y ∷ es) n.store))) (sym entry_is)
                  r.stands;
            }
        by_sort Channels i (c, n_is, value_is, entry_is, named) ih =
            let a = one Channels i tt (c, n_is, value_is, entry_is, named) in
            let r = ih (with_store plain n (put_cell plain at (cell.Channel n_is) n.store))
            (subst (λ y. S (j ∷ js) o s1 (with_store plain n (put_cell plain at (cell_of y) n.store))) entry_is a) in
            record {
              store = r.store;
              runs = r.runs;
              stands = subst (λ y. S (j ∷ js) o r.store
                  (with_store plain n (with_arguments plain j.machine.number k (y ∷ es) n.store))) (sym entry_is)
                  r.stands;
            }
        by_sort Many i st ih =
            let a = put_cells_law g code w Named Called W R J low base born since pause moved formed t
            (record { spot = Cell w.name (length js) x; path = []; kind = v.kind }) at points
            (mine_read (length js) x) u st.0 st.2 in
            let r = ih (with_store plain n (put_cells plain at st.0 n.store)) a in
            record {
              store = r.store;
              runs = r.runs;
              stands = subst (λ y. S (j ∷ js) o r.store
                  (with_store plain n (with_arguments plain j.machine.number k (y ∷ es) n.store))) (sym st.1) r.stands;
            }
        by_sort NoSort i st ih = absurd st

  -- ---- the call

  pub open_law : {js : List FramePair} {o : LocalState} {s : Store} {n : Memory Plain} → S js o s n
      → (f : ℕ) (b : Block) (l : Layout) → slice_get p.blocks f ≡ Some b → l ≡ emitted.layout_of p f l.entry b
      → (q up : ℕ) (j : FramePair) (rest : List FramePair) → b.parent ≡ Some q → up_at up js ≡ j ∷ rest
      → seek (is_block q) (length (sources js)) (sources js) ≡ sources (j ∷ rest)
      → (gs : List ArgumentValue) (es : List Entry) → GivensAre rel p js b.formals gs es
      → (fit_formals l.formals es ≡ true) × ((ops g code w Named Called W R J low base born since pause moved
      formed).can_push up n ≡ true)
      × CallMatches rel w js s f b (j ∷ rest) gs (run (enter g f gs) w o s)
      ((ops g code w Named Called W R J low base born since pause moved formed).open_frame l up es n)
  open_law {js} {o} {s} {n} t f b l eb el q up j rest ep eu sk gs es given = (
    ap (λ (y : Layout). fit_formals y.formals es) el
        ∙ fit_law g code w Named Called W R J low base born since pause moved formed based mine_read room js b.formals
        gs es given,
    ap (λ fs. is_there fs && nat_le (next_frame n.store) 18446744073709551615)
        (outward g code w Named Called W R J low base born since pause moved formed t up j rest eu).0
        ∙ le-leb (next_frame n.store) 18446744073709551615 small,
    subst (λ x. En (run (bind (or_ill_formed x) after_block) w o s)) (sym eb)
        (by_ticks (nat_lt o.ticks g.limits.ticks) (nat_lt n.ticks g.limits.ticks)
        (ap (λ z. nat_lt z g.limits.ticks) t.ticks)),
  )
    where
      small : next_frame n.store ≤ 18446744073709551615
      small = let a = next_small n.store low base js t.frames.own_frames t.frames.counts t.known in
          let d = t.frames.deep in
          let e = t.frames.shallow in let c = t.frames.above_base in omega (arith, a, d, e, c, room)

      size : ℕ
      size = size_of_frame g f

      link : ℕ
      link = length (sources (j ∷ rest))

      -- what follows of the call, step by step
      after_frame : ℕ → Unit {0} → Work Block
      after_frame h u = bind (lay g h (variables_of f 0 p.variables))
          (λ u. bind (copy_in g h b.formals gs) (λ u. give b))

      after_link : ℕ → Work Block
      after_link k = bind local_state (λ o. bind who
          (λ w. bind (set_local_state (pushed_frame g f k (references b.formals gs) w o))
          (after_frame (length o.frames))))

      after_cells : Unit {0} → Work Block
      after_cells u = bind (enclosing_link g b.parent) after_link

      after_depth : Unit {0} → Work Block
      after_depth u = bind (widen g.limits size) after_cells

      after_tick : Unit {0} → Work Block
      after_tick u = bind (deepen g.limits) after_depth

      after_block : Block → Work Block
      after_block c = bind (tick g.limits) (λ u. bind (deepen g.limits)
          (λ u. bind (widen g.limits size) (λ u. bind (enclosing_link g c.parent)
          (λ k. bind local_state
          (λ o. bind who (λ w. bind (set_local_state (pushed_frame g f k (references c.formals gs) w o)) (λ u.
          bind (lay g (length o.frames) (variables_of f 0 p.variables))
          (λ u. bind (copy_in g (length o.frames) c.formals gs) (λ u. give c)))))))))

      opens : Bool → Bool → Bool → MemoryResult (Memory Plain)
      opens a c d = if a then (if c then (if d then Failed fault.F12 else
          Done (memory_after_call plain (code_run g code pause)
          l up es
          n)) else Failed fault.F11) else Failed fault.F10

      d0 : MemoryResult (Memory Plain)
      d0 = opens (nat_lt n.ticks g.limits.ticks) (nat_lt n.depth g.limits.depth)
          (nat_lt g.limits.cells (n.cells + sum l.sizes))

      En : WorkOutcome Block × Store → Type 0
      En r = CallMatches rel w js s f b (j ∷ rest) gs r d0

      En_by : Bool → Bool → Bool → WorkOutcome Block × Store → Type 0
      En_by a c d r = CallMatches rel w js s f b (j ∷ rest) gs r (opens a c d)

      o3 : LocalState
      o3 = record o { ticks = o.ticks + 1; depth = o.depth + 1; cells = o.cells + size }

      o4 : LocalState
      o4 = pushed_frame g f link (references b.formals gs) w o3

      -- the frame is the one that is meant
      o4_is : o4 ≡ record o {
        frames = frame_for rel w f b js (j ∷ rest) gs ∷ sources js;
        depth = o.depth + 1;
        ticks = o.ticks + 1;
        cells = o.cells + size;
      }
      o4_is =
          ap (λ fs. record o {
            frames = record {
              owner = w.name;
              number = length fs;
              home = OfBlock f;
              link = link;
              references = references b.formals gs;
            } ∷ fs;
            depth = o.depth + 1;
            ticks = o.ticks + 1;
            cells = o.cells + size;
          }) t.frames.sources_are
          ∙ ap (λ z. record o {
            frames = record {
              owner = w.name;
              number = z;
              home = OfBlock f;
              link = link;
              references = references b.formals gs;
            } ∷ sources js;
            depth = o.depth + 1;
            ticks = o.ticks + 1;
            cells = o.cells + size;
          }) (sources_length js)
          ∙ ap (λ z. record o {
            frames = record {
              owner = w.name;
              number = length js;
              home = OfBlock f;
              link = z;
              references = references b.formals gs;
            } ∷ sources js;
            depth = o.depth + 1;
            ticks = o.ticks + 1;
            cells = o.cells + size;
          }) (sources_length (j ∷ rest))

      done : o.depth + 1 ≤ g.limits.depth → o.cells + size ≤ g.limits.cells
          → CallMatches rel w js s f b (j ∷ rest) gs
          (run (after_frame (length js) tt) w
          (record o {
            frames = frame_for rel w f b js (j ∷ rest) gs ∷ sources js;
            depth = o.depth + 1;
            ticks = o.ticks + 1;
            cells = o.cells + size;
          }) s)
          (Done (memory_after_call plain (code_run g code pause) l
          up es n))
      done hd hc =
          let st = stands_new g code w Named Called W R J low base born since pause moved formed based mine_read room t
          f b l eb el q up j rest ep eu gs es given hd hc in
          let jm : m.Frame = record {
            owner = n.process;
            number = next_frame n.store;
            home = m.OfBlock l.block;
            link = length (frames_up up n.frames);
            references = m.references 0 es;
          } in
          let j1 : FramePair = record { source = frame_for rel w f b js (j ∷ rest) gs; machine = jm } in
          let n1 : Memory Plain = record n {
            frames = jm ∷ n.frames;
            depth = n.depth + 1;
            ticks = n.ticks + 1;
            cells = n.cells + sum l.sizes;
            store = with_new_frame n.store l.sizes;
          } in
          let o5 : LocalState = record o {
            frames = frame_for rel w f b js (j ∷ rest) gs ∷ sources js;
            depth = o.depth + 1;
            ticks = o.ticks + 1;
            cells = o.cells + size;
          } in
          let s1 = laid g w (length js) (variables_of f 0 p.variables) s in
          let c = copy_law j1 js f refl refl refl b.formals gs es 0 given (formals_numbered p formed f b q eb ep)
          (formal_of_block p formed f b eb) o5 s1 n1 st in
          let r : ◌≡◌ {A = WorkOutcome Block × Store} (run (after_frame (length js) tt) w o5 s)
          (Computed b o5, c.store) =
          run_bind (lay g (length js) (variables_of f 0 p.variables))
          (λ u. bind (copy_in g (length js) b.formals gs) (λ u. give b)) w o5 s
          ∙ ap (λ z. then_run (λ u. bind (copy_in g (length js) b.formals gs) (λ u. give b)) w z)
          (run_lay g w (length js) (variables_of f 0 p.variables) o5 s)
          ∙ run_bind (copy_in g (length js) b.formals gs) (λ u. give b) w o5 s1
          ∙ ap (λ z. then_run (λ u. give b) w z) c.runs in
          subst (λ z. CallMatches rel w js s f b (j ∷ rest) gs z
          (Done (memory_after_call plain (code_run g code pause)
          l up es
          n))) (sym r) (refl, (j1, refl, c.stands, t.frames.above_base))

      -- the frame of the enclosing block is found
      by_link : o.depth + 1 ≤ g.limits.depth → o.cells + size ≤ g.limits.cells
          → CallMatches rel w js s f b (j ∷ rest) gs (run (bind (enclosing_link g b.parent) after_link) w o3 s)
          (Done (memory_after_call plain (code_run g code pause) l
          up es n))
      by_link hd hc =
          let D : MemoryResult (Memory Plain) = Done (memory_after_call plain
          (code_run g code pause) l up es n) in
          subst (λ z. CallMatches rel w js s f b (j ∷ rest) gs (run (bind (enclosing_link g z) after_link) w o3 s) D)
          (sym ep)
          (subst (λ z. CallMatches rel w js s f b (j ∷ rest) gs
          (run_tree same_loc (and_then (frame_link z w o3) (λ r. go_on after_link w r)) s) D)
          (sym (ap (λ fs. seek (is_block q) (length fs) fs) t.frames.sources_are ∙ sk))
          (subst (λ z. CallMatches rel w js s f b (j ∷ rest) gs (run (after_frame (length o.frames) tt) w z s) D)
          (sym o4_is)
          (subst (λ z. CallMatches rel w js s f b (j ∷ rest) gs
          (run (after_frame z tt) w (record o {
            frames = frame_for rel w f b js (j ∷ rest) gs ∷ sources js;
            depth = o.depth + 1;
            ticks = o.ticks + 1;
            cells = o.cells + size;
          }) s) D) (sym (ap length t.frames.sources_are ∙ sources_length js)) (done hd hc))))

      size_is : sum l.sizes ≡ size
      size_is = ap (λ (y : Layout). sum y.sizes) el ∙ frame_cells p formed f b eb

      widened : Bool → Work (Unit {0})
      widened c w o = if c then fail fault.F12 w o else set_local_state (record o { cells = o.cells + size }) w o

      deepened : Bool → Work (Unit {0})
      deepened c w o = if c then set_local_state (record o { depth = o.depth + 1 }) w o else fail fault.F11 w o

      ticked : Bool → Work (Unit {0})
      ticked c w o = if c then set_local_state (record o { ticks = o.ticks + 1 }) w o else fail fault.F10 w o

      by_cells : o.depth + 1 ≤ g.limits.depth → (a c : Bool) → nat_lt g.limits.cells (o.cells + size) ≡ a → a ≡ c
          → En_by true true c (run (bind (widened a) after_cells) w
          (record o { ticks = o.ticks + 1; depth = o.depth + 1 }) s)
      by_cells hd true true e i = (refl, refl)
      by_cells hd true false e i = absurd (cc i)
      by_cells hd false true e i = absurd (cc i)
      by_cells hd false false e i = by_link hd (ltb-false g.limits.cells (o.cells + size) e)

      by_depth : (a c : Bool) → nat_lt o.depth g.limits.depth ≡ a → a ≡ c
          → En_by true c (nat_lt g.limits.cells (n.cells + sum l.sizes))
          (run (bind (deepened a) after_depth) w (record o { ticks = o.ticks + 1 }) s)
      by_depth true true e i = by_cells (next_is_within o.depth g.limits.depth e)
          (nat_lt g.limits.cells (o.cells + size)) (nat_lt g.limits.cells (n.cells + sum l.sizes)) refl
          (ap (λ z. nat_lt g.limits.cells (z + size)) t.frames.cells
          ∙ ap (λ z. nat_lt g.limits.cells (n.cells + z)) (sym size_is))
      by_depth true false e i = absurd (cc i)
      by_depth false true e i = absurd (cc i)
      by_depth false false e i = (refl, refl)

      by_ticks : (a c : Bool) → a ≡ c → En_by c (nat_lt n.depth g.limits.depth)
          (nat_lt g.limits.cells (n.cells + sum l.sizes)) (run (bind (ticked a) after_tick) w o s)
      by_ticks true true i = by_depth (nat_lt o.depth g.limits.depth) (nat_lt n.depth g.limits.depth) refl
          (ap (λ z. nat_lt z g.limits.depth) t.frames.depth)
      by_ticks true false i = absurd (cc i)
      by_ticks false true i = absurd (cc i)
      by_ticks false false i = (refl, refl)
