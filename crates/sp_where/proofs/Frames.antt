-- The frames of a process on both sides, and the lines of their variables, by what its memory holds.
use Rattle.std.proofs.Common.{◌≡◌, ◌⊎◌, inl, inr, ⊎_elim, ℕ, zero, suc, ◌+◌, ℤ, List, [], ◌∷◌, ◌++◌, Option, Some, None}
use Rattle.std.proofs.Common.{Bool, true, false, length, map, drop, refl, sym, ap, ◌∙◌, subst, slice_get}
use Rattle.std.proofs.lemmas.Option.{same_Some}
use Rattle.std.specs.FinMap as fin
use Rattle.std.specs.Prelude.{codes}
use Rattle.sp_base.specs.declared.limits.Limits.{Limits}
use Rattle.sp_base.specs.Names.{channel_text}
use Rattle.sp_tree.specs.declared.checked.Role.{Role}
use Rattle.sp_tree.specs.declared.checked.Role.TheVariants as role
use Rattle.sp_tree.specs.declared.checked.Variable as checked
use Rattle.sp_tree.specs.Bare.{variable_of, without_places}
use Rattle.sp_tree.specs.TreeShape.{IsFormed}
use Rattle.sp_tree.specs.Plain.{Block, Program, Stmt, Variable}
use Rattle.sp_tree.specs.PlainChecked as c
use Rattle.sp_journal.specs.Births.{births}
use Rattle.sp_journal.specs.Names.{Channel, Name, chan_name}
use Rattle.sp_journal.specs.declared.entry.Entry.{Entry}
use Rattle.sp_cell.specs.declared.cell.Cell.{Cell as OneCell}
use Rattle.sp_cell.specs.declared.spot.Address.{Address}
use Rattle.sp_cell.specs.declared.spot.Spot.{Spot}
use Rattle.sp_cell.specs.Map.{Away, Content, Map, Own, Output, Plain, Shared}
use Rattle.sp_code.specs.declared.code.Formal.{Formal}
use Rattle.sp_code.specs.declared.code.Layout.{Layout}
use Rattle.sp_code.specs.TreeCode.{formal_by, program_code}
use Rattle.sp_code.specs.TreeCode as emitted
use Rattle.sp_code.specs.Machine.{layout_of}
use Rattle.sp_code.specs.Memory.{Memory, cell_at}
use Rattle.sp_code.specs.Memory as m
use Rattle.sp_code.specs.PlainStore.{piece_of}
use Rattle.sp_code.specs.Scopes.{slot}
use Rattle.sp_codegen.proofs.Returns.{Laid}
use Rattle.sp_codegen.proofs.FramePairs.{from_here, from_push, machines_length, sources_length}
use Rattle.sp_codegen.proofs.Locations.{points_in, points_push}
use Rattle.sp_codegen.proofs.Shapes.{whole}
use Rattle.sp_codegen.specs.FramePairs.{FramePair, machines, pairs_from, sources}
use Rattle.sp_codegen.specs.Relation.{Owns}
use Rattle.sp_codegen.specs.Shapes.{Flat}
use Rattle.sp_codegen.specs.MemoryRelation.{HomesAre, Live, Paired, PointsTo, spot_at}
use Rattle.sp_lines.specs.declared.mark.Mark.{Mark}
use Rattle.sp_meaning.specs.Eval.{in_frame}
use Rattle.sp_meaning.specs.LocalWork.{Cell, Frame, Home, Loc, OfBlock, OfIndex, RunInput, Tree, value_in}
use Rattle.sp_meaning.specs.LocalWork.{reference_target}
use Rattle.sp_meaning.specs.LocalWork as own
use Rattle.sp_meaning.specs.Run.{Store}
use Rattle.sp_meaning.specs.Values.{Value, get_at}
use Rattle.sp_where.specs.StateVariables.{Known, content_line, first_variable, value_line, variable_line}
use Rattle.sp_where.specs.StateVariables.{named_line}
use Rattle.sp_where.specs.Values.{cell_channel_text, value_text}
use Rattle.sp_where.proofs.Layouts.{ByReference, HowFound, InFrame, variable_at}
use Rattle.sp_where.proofs.ValueTexts.{component_text}
use Rattle.sp_where.specs.Lines.{Says, line_away, line_with, shown_text}
use Rattle.sp_where.specs.Truth.{FrameStands, FramesAgree, VariableStands, known_of, place_by, run_of}

-- ---- small facts

-- what stands in a list of images is the image of what stands there
record IsImage {A B : Type 0} (f : A → B) (xs : List A) (i : ℕ) (y : B) : Type 0 where
  pub of : A
  pub there : slice_get xs i ≡ Some of
  pub image : f of ≡ y

image_at : {A B : Type 0} (f : A → B) (xs : List A) (i : ℕ) (y : B) → slice_get (map f xs) i ≡ Some y
    → IsImage f xs i y
image_at f [] i y e = absurd (cc e)
image_at f (x ∷ xs) zero y e = record { of = x; there = refl; image = same_Some (f x) y e }
image_at f (x ∷ xs) (suc i) y e =
    let z = image_at f xs i y e in record { of = z.of; there = z.there; image = z.image }

-- the homes of a pair of frames
block_home : (p : Program) (h : Home) (k : m.Home) (b : ℕ) → HomesAre p h k → k ≡ m.OfBlock b
    → (h ≡ OfBlock b) × ((c : Block) × (slice_get p.blocks b ≡ Some c))
block_home p (OfBlock a) (m.OfBlock c) b (same_block, (block, known)) d =
    let same : c ≡ b = cc d in
    let all : a ≡ b = same_block ∙ same in
    (ap OfBlock all, (block, ap (slice_get p.blocks) (sym all) ∙ known))
block_home p (OfBlock a) (m.OfIndex x) b e d = absurd e
block_home p (OfIndex x v) (m.OfBlock c) b e d = absurd e
block_home p (OfIndex x v) (m.OfIndex y) b e d = absurd (cc d)

index_home : (p : Program) (h : Home) (k : m.Home) (x : ℕ) → HomesAre p h k → k ≡ m.OfIndex x
    → (n : ℤ) × (h ≡ OfIndex x n)
index_home p (OfBlock a) (m.OfBlock c) x e d = absurd (cc d)
index_home p (OfBlock a) (m.OfIndex y) x e d = absurd e
index_home p (OfIndex y v) (m.OfBlock c) x e d = absurd e
index_home p (OfIndex y v) (m.OfIndex z) x e d =
    let same : z ≡ x = cc d in (v, ap (λ i. OfIndex i v) (e.0 ∙ same))

-- where an owned variable stands
place_owned : (g : RunInput) (o : Frame) (x : ℕ) (v : Variable) (r : Role) → Owns r
    → place_by g o x v r ≡ Some (in_frame g x v o)
place_owned g o x v role.Console h = absurd h
place_owned g o x v role.Local h = refl
place_owned g o x v role.Value h = refl
place_owned g o x v role.Reference h = absurd h
place_owned g o x v role.Index h = absurd h
place_owned g o x v role.Answer h = refl

-- the line of a piece that is held
held_line : (w : Known) (u : checked.Variable) (o : ℕ) (k : Option Content) (cs : List OneCell)
    → piece_of k ≡ Some cs → content_line w u o k ≡ value_line w u (drop o cs)
held_line w u o None cs e = absurd (cc e)
held_line w u o (Some (Own bs)) cs e = ap (λ z. value_line w u (drop o z)) (same_Some bs cs e)
held_line w u o (Some (Shared bs)) cs e = ap (λ z. value_line w u (drop o z)) (same_Some bs cs e)
held_line w u o (Some (Output bs)) cs e = absurd (cc e)
held_line w u o (Some Away) cs e = absurd (cc e)

-- ---- the frame at a place

record FrameAt (p : Program) (Called : Name → ℕ → Type 0) (js : List FramePair) (h : ℕ) (f : m.Frame) : Type 0 where
  pub joint : FramePair
  pub rest : List FramePair
  pub machine_is : joint.machine ≡ f
  pub source_at : slice_get (sources js) h ≡ Some joint.source
  pub from : pairs_from (suc (length rest)) js ≡ joint ∷ rest
  pub paired : Paired p Called (joint ∷ rest)

frame_at : (p : Program) (Called : Name → ℕ → Type 0) (js : List FramePair) (h : ℕ) (f : m.Frame)
    → slice_get (machines js) h ≡ Some f → Paired p Called js → FrameAt p Called js h f
frame_at p Called [] h f e k = absurd (cc e)
frame_at p Called (j ∷ js) zero f e k = record {
  joint = j;
  rest = js;
  machine_is = same_Some j.machine f e;
  source_at = refl;
  from = from_here j js;
  paired = k;
}
frame_at p Called (j ∷ js) (suc h) f e (_, others) =
    let z = frame_at p Called js h f e others in
    record {
      joint = z.joint;
      rest = z.rest;
      machine_is = z.machine_is;
      source_at = z.source_at;
      from = from_push (suc (length z.rest)) j js z.joint z.rest z.from;
      paired = z.paired;
    }

-- ---- what is held

-- at its spot a variable has cells of its value in the store
pub record HasCells (p : Program) (Named : Channel → ℕ → Type 0) (s : Store) (mp : Map) (l : Loc) (spot : Spot)
    (kind : ℕ) :
    Type 0 where
  pub tree : Value
  pub tree_is : s l ≡ Tree tree
  pub cells : List OneCell
  pub piece : piece_of (fin.get mp spot) ≡ Some cells
  pub flat : Flat p Named kind tree cells

-- each variable that may be read is held, or away
abbrev pub AreHeld : Program → (Channel → ℕ → Type 0) → (Loc → Type 0) → Store → Map → List FramePair → Type 0
AreHeld p Named R s mp js = (q : Name) (h x : ℕ) → (l : Live p js q h x) → R (Cell q h x)
    → (fin.get mp (spot_at l.joint.machine.number (slot p x)) ≡ Some Away)
    ⊎ HasCells p Named s mp (Cell q h x) (spot_at l.joint.machine.number (slot p x)) l.info.kind

-- ---- the lines

module _ (tree : c.Program) (input : List ℕ) (limits : Limits) (moves shares : Stmt → List ℕ) (es : List Entry)
    (constants : List (List (List ℕ))) (marks : List Mark) (formed : IsFormed (without_places tree))
    (laid : Laid (without_places tree) (program_code (without_places tree) moves shares).layouts)
    (Named : Channel → ℕ → Type 0) (Called : Name → ℕ → Type 0) (R : Loc → Type 0)
    (named : (d : Channel) (j : ℕ) → Named d j → cell_channel_text (births es) j ≡ channel_text (chan_name d))
    (called : (q : Name) (n : ℕ) → Called q n → q ≡ (births es).name n) (s : Store) (n : Memory Plain)
    (js : List FramePair) (paired : Paired (without_places tree) Called js)
    (held : AreHeld (without_places tree) Named R s n.store.map js) where
  abbrev p : Program
  p = without_places tree

  abbrev g : RunInput
  g = run_of tree input limits

  abbrev w : Known
  w = known_of tree moves shares es constants marks

  -- what stands at an address is told, or away
  abbrev Told : checked.Variable → own.Address → Address → Type 0
  Told u a t = (content_line w u t.offset (fin.get n.store.map t.spot) ≡ line_with w u (get_at a.path (value_in
      (s a.spot))))
      ⊎ ((content_line w u t.offset (fin.get n.store.map t.spot) ≡ line_away u)
      × (fin.get n.store.map t.spot ≡ Some Away))

  told : (u : checked.Variable) (a : own.Address) (t : Address) → PointsTo p js a t → a.kind ≡ u.kind → R a.spot
      → Told u a t
  told u a t k same r = ⊎_elim away here (held k.owner k.frame k.variable k.live (subst R k.cell_is r))
    where
      away : fin.get n.store.map (spot_at k.live.joint.machine.number (slot p k.variable)) ≡ Some Away → Told u a t
      away e =
          let there : fin.get n.store.map t.spot ≡ Some Away = ap (fin.get n.store.map) k.spot_is ∙ e in
          inr (ap (content_line w u t.offset) there, there)

      here : HasCells p Named s n.store.map (Cell k.owner k.frame k.variable)
          (spot_at k.live.joint.machine.number (slot p k.variable)) k.live.info.kind → Told u a t
      here z =
          let content = ap (λ q. piece_of (fin.get n.store.map q)) k.spot_is ∙ z.piece in
          let value : value_in (s a.spot) ≡ z.tree = ap value_in (ap s k.cell_is ∙ z.tree_is) in
          let text = component_text p formed constants (births es) Named named k.live.info.kind a.path t.offset a.kind
          z.tree z.cells z.flat (k.reaches.piece z.tree z.flat.0) k.typed in
          inl (held_line w u t.offset (fin.get n.store.map t.spot) z.cells content
          ∙ ap (λ y. codes "    " ++ u.name ++ codes " = " ++ y ++ codes "\n")
          (subst (λ i. value_text tree.kinds constants (births es) i
          (drop t.offset z.cells) ≡ shown_text tree.kinds constants i
          (get_at a.path z.tree)) same text)
          ∙ ap (λ y. line_with w u (get_at a.path y)) (sym value))

  module _ (May : Loc → Type 0) (joins : Bool)
      (unaway : joins ≡ false → (spot : Spot) → fin.get n.store.map spot ≡ Some Away → ⊥)
      (reads : (l : Loc) → May l → R l) where
    -- the line of a variable at an address
    says : (u : checked.Variable) (x : ℕ) → slice_get tree.variables x ≡ Some u → (a : own.Address) (t : Address)
        → PointsTo p js a t → a.kind ≡ u.kind → May a.spot
        → Says w u (get_at a.path (value_in (s a.spot))) joins (variable_line w n.store x (Some t))
    says u x known a t k same may =
        subst (λ y. Says w u (get_at a.path (value_in (s a.spot))) joins y)
        (sym (ap (named_line w n.store t) known)) (go joins refl (told u a t k same (reads a.spot may)))
      where
        go : (b : Bool) → joins ≡ b → Told u a t → Says w u (get_at a.path (value_in (s a.spot))) b
            (content_line w u t.offset (fin.get n.store.map t.spot))
        go false e (inl h) = h
        go false e (inr h) = absurd (unaway e t.spot h.1)
        go true e (inl h) = inl h
        go true e (inr h) = inr h.0

    module _ (h : ℕ) (f : m.Frame) (at : FrameAt p Called js h f) where
      abbrev o : Frame
      o = at.joint.source

      -- one variable of the frame
      variable_stands : (b : ℕ) → o.home ≡ OfBlock b → (fs : List Formal) (k x : ℕ) (u : checked.Variable)
          → slice_get tree.variables x ≡ Some u → slice_get p.variables x ≡ Some (variable_of u)
          → u.block ≡ b → slot p x ≡ k → HowFound fs k (variable_of u)
          → VariableStands w g May s n.store joins o f fs k x
      variable_stands b home fs k x u known bare block number (InFrame owns found) = record {
        variable = u;
        known = known;
        place = in_frame g x (variable_of u) o;
        place_is = place_owned g o x (variable_of u) u.role owns;
        says = λ may. subst (λ y. Says w u (value_in (s (in_frame g x (variable_of u) o).spot)) joins
            (variable_line w n.store x y)) (sym (found f ∙ ap Some address))
            (says u x known (in_frame g x (variable_of u) o) (cell_at at.joint.machine.number (slot p x)) points refl
            may);
      }
        where
          address : cell_at f.number k ≡ cell_at at.joint.machine.number (slot p x)
          address = ap (λ (y : m.Frame). cell_at y.number k) (sym at.machine_is)
              ∙ ap (cell_at at.joint.machine.number) (sym number)

          number_is : at.joint.source.number ≡ length at.rest
          number_is = at.paired.0.number_is

          points : PointsTo p js (in_frame g x (variable_of u) o) (cell_at at.joint.machine.number (slot p x))
          points = record {
            owner = o.owner;
            frame = o.number;
            variable = x;
            cell_is = refl;
            live = record {
              info = variable_of u;
              known = bare;
              owns = owns;
              joint = at.joint;
              rest = at.rest;
              frame_at = subst (λ z. pairs_from (suc z) js ≡ at.joint ∷ at.rest) (sym number_is) at.from;
              owner_is = refl;
              home = home ∙ ap OfBlock (sym block);
            };
            spot_is = refl;
            reaches = whole p u.kind;
            typed = formed.kinds x (variable_of u) bare;
          }
      variable_stands b home fs k x u known bare block number (ByReference refers found) =
          let (target, target_is, same_kind, (place, place_is, points)) =
          at.paired.0.references x (variable_of u) bare (home ∙ ap OfBlock (sym block)) refers in
          record {
            variable = u;
            known = known;
            place = target;
            place_is = ap (place_by g o x (variable_of u)) refers ∙ target_is;
            says = λ may. subst (λ y. Says w u (get_at target.path (value_in (s target.spot))) joins
                (variable_line w n.store x y))
                (sym (found f ∙ ap (λ (y : m.Frame). m.reference_target k y.references) (sym at.machine_is)
                ∙ ap (λ y. m.reference_target y at.joint.machine.references) (sym number) ∙ place_is))
                (says u x known target place
                (points_in p (suc (length at.rest)) js target place
                (subst (λ z. PointsTo p z target place) (sym at.from)
                (points_push p at.joint at.rest target place points))) same_kind may);
          }

      -- one of those of the layout
      of_layout : (b : ℕ) (l : Layout) → f.home ≡ m.OfBlock b → layout_of w.code.layouts b ≡ Some l → (k x : ℕ)
          → slice_get l.variables k ≡ Some x
          → VariableStands w g May s n.store joins o f l.formals (first_variable f.home + k) x
      of_layout b l home found k x e =
          let (home_is, (block, block_known)) = block_home p o.home at.joint.machine.home b at.paired.0.homes
          (ap (λ (y : m.Frame). y.home) at.machine_is ∙ home) in
          let z = laid b block block_known in
          let layout_is : l ≡ emitted.layout_of p b z.0.entry block = same_Some l z.0 (sym found ∙ z.1) ∙ z.2 in
          let v = variable_at p formed b block block_known k x
          (sym (ap (λ (y : Layout). slice_get y.variables k) layout_is) ∙ e) in
          let u = image_at variable_of tree.variables x v.variable v.known in
          let fs = map (λ y. formal_by p (slice_get p.variables y)) block.formals in
          subst (λ y. VariableStands w g May s n.store joins o f l.formals (first_variable y + k) x) (sym home)
          (subst (λ (y : List Formal). VariableStands w g May s n.store joins o f y (first_variable (m.OfBlock b) + k)
          x) (sym (ap (λ (y : Layout). y.formals) layout_is))
          (variable_stands b home_is fs (first_variable (m.OfBlock b) + k) x u.of u.there
          (v.known ∙ ap Some (sym u.image)) (ap (λ (y : Variable). y.block) u.image ∙ v.block) v.slot_is
          (subst (λ y. HowFound fs (first_variable (m.OfBlock b) + k) y) (sym u.image) v.found)))

      frame_stands : FrameStands w g May s n.store joins o f
      frame_stands = record {
        owner = called o.owner at.joint.machine.owner at.paired.0.owner_is
            ∙ ap (λ (y : m.Frame). (births es).name y.owner) at.machine_is;
        block = λ b e. (block_home p o.home at.joint.machine.home b at.paired.0.homes
            (ap (λ (y : m.Frame). y.home) at.machine_is ∙ e)).0;
        index = λ x e. index_home p o.home at.joint.machine.home x at.paired.0.homes
            (ap (λ (y : m.Frame). y.home) at.machine_is ∙ e);
        variables = of_layout;
      }

    -- all frames
    pub frames_agree : (os : List Frame) → os ≡ sources js → n.frames ≡ machines js
        → FramesAgree w g May os s n joins
    frames_agree os left right = record {
      as_many = ap length right ∙ machines_length js ∙ sym (sources_length js) ∙ ap length (sym left);
      frames = λ h f e. (let at = frame_at p Called js h f (ap (λ fs. slice_get fs h) (sym right) ∙ e) paired in
          (at.joint.source, ap (λ fs. slice_get fs h) left ∙ at.source_at, frame_stands h f at));
    }
