-- What a process statement uses is handed to its child, where the sets of the fork table are exact.
use Rattle.std.proofs.Common.{◌≡◌, ◌⊎◌, inl, inr, ⊎_elim, ℕ, zero, suc, ◌<◌, ◌≤◌, ℤ, List, [], ◌∷◌, Option, Some, None}
use Rattle.std.proofs.Common.{true, false, if◌then◌else◌, length, refl, sym, ap, ◌∙◌, subst, arith, eqb-true, eq-eqb}
use Rattle.std.proofs.Common.{◌==◌, Bool}
use Rattle.std.specs.Prelude.{◌≢◌, nat_lt, IsSome, slice_get}
use Rattle.std.specs.FinMap as fin
use Rattle.std.proofs.lemmas.Bool.{cases_eq}
use Rattle.std.proofs.lemmas.Option.{same_Some}
use Rattle.sp_tree.specs.declared.checked.Role.{Role}
use Rattle.sp_tree.specs.declared.checked.Role.TheVariants as role
use Rattle.sp_tree.specs.Plain.{Program, Variable, Stmt}
use Rattle.sp_tree.specs.Uses.{Use, Target, In_stmt}
use Rattle.sp_tree.specs.Uses as use_of
use Rattle.sp_tree.specs.Sets.{Reach, IsTarget, IsUsed}
use Rattle.sp_tree.specs.Interference.{IsFreeOfInterference, IsIndexOf, IsMember}
use Rattle.sp_cell.specs.declared.spot.Spot.{Spot}
use Rattle.sp_cell.specs.declared.spot.Handing.{Handing}
use Rattle.sp_cell.specs.Map.{Content, Plain, IsPiece, output_spot}
use Rattle.sp_cell.specs.Spots.{In}
use Rattle.sp_meaning.specs.Model.{Name, Channel}
use Rattle.sp_meaning.specs.LocalWork.{RunInput, Loc, Cell, Input, Output, Home, OfBlock, OfIndex, Frame, LocalState}
use Rattle.sp_meaning.specs.LocalWork.{Identity, is_block}
use Rattle.sp_meaning.specs.LocalWork.{is_index as is_index_home}
use Rattle.sp_meaning.specs.Rights.{frame_found, cell_of, spot_of as loc_of, reference_of, console, location_by}
use Rattle.sp_meaning.specs.Rights.{location_at}
use Rattle.sp_meaning.specs.Rights.{location_of, Touches, Aimed, Used, Sound}
use Rattle.sp_meaning.specs.Run.{Store}
use Rattle.sp_meaning.proofs.Rights.{OwnLocation}
use Rattle.sp_meaning.proofs.Static.{home_is}
use Rattle.sp_code.specs.declared.code.ChildTable.{ChildTable}
use Rattle.sp_code.specs.declared.code.Parts.{Parts as Code}
use Rattle.sp_code.specs.Memory.{Memory, position_at}
use Rattle.sp_code.specs.Memory as m
use Rattle.sp_code.specs.System.{spot_of, spot_from, handing_of}
use Rattle.sp_code.proofs.Plans.{in_spots, spots_from}
use Rattle.sp_code.specs.TreeCode.{but_index}
use Rattle.sp_code.specs.Shares.{SetsAre}
use Rattle.sp_code.specs.Scopes.{Scope, is_index, level, slot}
use Rattle.sp_codegen.specs.FramePairs.{FramePair, sources, machines, pairs_from, up_at, Chain}
use Rattle.sp_tree.specs.TreeShape.{IsFormed}
use Rattle.sp_code.proofs.StoreLaws.{piece_of_cells}
use Rattle.sp_codegen.specs.MemoryRelation.{spot_at, HomesAre, Live, Paired, Agrees}
use Rattle.sp_codegen.proofs.Chains.{index_agrees, found}
use Rattle.sp_codegen.proofs.ChildIndexes.{Seen, index_spot}
use Rattle.sp_codegen.proofs.FramePairs.{up_from, paired_from, machines_length, sources_length}
use Rattle.sp_codegen.proofs.Slots.{slot_same, slot_low, no_index_console}
use Rattle.sp_codegen.proofs.Returns.{Laid}
use Rattle.sp_codegen.proofs.Stores.{first_same}
use Rattle.sp_codegen.proofs.Birth.{IsHanded}
use Rattle.sp_codegen.proofs.ForkPlaces.{HasSpot, spot_agrees, stands_for, locate, top, find_is_located, from_all}
use Rattle.sp_codegen.proofs.ForkPlaces.{located_from}
use Rattle.sp_codegen.proofs.Contents.{known_piece}

known_as : {c : Option Content} {d : Content} → c ≡ Some d → IsSome c
known_as e = subst IsSome (sym e) refl

spots_same : (a b c d : ℕ) → Some (spot_at a b) ≡ Some (spot_at c d) → (a ≡ c) × (b ≡ d)
spots_same a b c d e = let one = same_Some (spot_at a b) (spot_at c d) e in
    (ap (λ (z : Spot). z.frame) one, ap (λ (z : Spot). z.variable) one)

blocks_same : (a b : ℕ) → OfBlock a ≡ OfBlock b → a ≡ b
blocks_same a b e = cc e

-- what a table shares: all but the index
but_has : (i : Option ℕ) (xs : List ℕ) (y : ℕ) → IsMember y xs → (i ≡ Some y → ⊥) → IsMember y (but_index i xs)
but_has None xs y h d = h
but_has (Some x) [] y h d = absurd h
but_has (Some x) (z ∷ zs) y h d = go (z == x) refl (but_has (Some x) zs y) h
  where
    go : (b : Bool) → z == x ≡ b → (IsMember y zs → (Some x ≡ Some y → ⊥) → IsMember y (but_index (Some x) zs))
        → (y ≡ z) ⊎ IsMember y zs → IsMember y (if b then but_index (Some x) zs else z ∷ but_index (Some x) zs)
    go true e ih (inl a) = absurd (d (ap Some (sym (eqb-true z x e) ∙ sym a)))
    go true e ih (inr a) = ih a d
    go false e ih (inl a) = inl a
    go false e ih (inr a) = inr (ih a d)

pub but_only : (i : Option ℕ) (xs : List ℕ) (y : ℕ) → IsMember y (but_index i xs) → IsMember y xs × (i ≡ Some y → ⊥)
but_only None xs y h = (h, λ e. cc e)
but_only (Some x) [] y h = absurd h
but_only (Some x) (z ∷ zs) y h = go (z == x) refl (but_only (Some x) zs y) h
  where
    one : Some x ≡ Some y → x ≡ y
    one e = cc e

    go : (b : Bool) → z == x ≡ b → (IsMember y (but_index (Some x) zs) → IsMember y zs × (Some x ≡ Some y → ⊥))
        → IsMember y (if b then but_index (Some x) zs else z ∷ but_index (Some x) zs) → IsMember y (z ∷ zs)
        × (Some x ≡ Some y → ⊥)
    go true e ih a = let r = ih a in (inr r.0, r.1)
    go false e ih (inl a) = (inl a, λ f. (let bad : false ≡ true = sym e ∙ eq-eqb z x (sym a ∙ sym (one f)) in cc bad))
    go false e ih (inr a) = let r = ih a in (inr r.0, r.1)

module _ (g : RunInput) (code : Code) (w : Identity) (Named : Channel → ℕ → Type 0) (Called : Name → ℕ → Type 0)
    (W R : Loc → Type 0) (J : ℕ → Type 0) (low base born since pause : ℕ) (moved : List Spot)
    (formed : IsFormed g.program) (laid : Laid g.program code.layouts) (free : IsFreeOfInterference g.program)
    (reads : (l : Loc) → W l → R l) (moves shares : Stmt → List ℕ) (sets : SetsAre g.program moves shares) where
  abbrev p : Program
  p = g.program

  module _ {js : List FramePair} {o : LocalState} {s : Store} {n : Memory Plain}
      (t : Agrees g code w Named Called W R J low base born since pause moved js o s n) (st : Stmt)
      (so : Sound p W R (sources js) (In_stmt st))
      (unread : IsUsed p (In_stmt st) 1 → IsTarget p (In_stmt st) 1) (child : Name)
      (new_name : (k : ℕ) (j : FramePair) (rest : List FramePair) → pairs_from (suc k) js ≡ j ∷ rest
      → j.source.owner ≡ child → ⊥)
      (table : ChildTable) (moved_is : table.moved ≡ moves st)
      (shared_is : table.shared ≡ but_index table.index (shares st)) (value : ℤ) (number : ℕ) where
    abbrev h : Handing
    h = handing_of code.layouts n.frames value number table

    -- what the child may read
    abbrev pub IsReadable : Loc → Type 0
    IsReadable l = OwnLocation child l ⊎ Used p (sources js) st l

    pub right_of : (l : Loc) (y : ℕ) → IsUsed p (In_stmt st) y → location_of p (sources js) y ≡ Some l → R l
    right_of l y (inl a) e = reads l (so.allowed a.0 (Target y) a.1 y l (refl, e))
    right_of l y (inr a) e = so.allowed a.0 (use_of.Seen y) a.1 y l (refl, e)

    handed_if : (y : ℕ) (q : Spot) → IsUsed p (In_stmt st) y → (table.index ≡ Some y → ⊥)
        → spot_of code.layouts (machines js) y ≡ Some q → IsHanded h q
    handed_if y q u d e = go (sets.shared st y u)
      where
        at : spot_of code.layouts n.frames y ≡ Some q
        at = ap (λ z. spot_of code.layouts z y) t.frames.machines_are ∙ e

        go : IsMember y (moves st) ⊎ IsMember y (shares st) → IsHanded h q
        go (inl i) = inl (in_spots code.layouts n.frames table.moved y q (subst (λ z. IsMember y z) (sym moved_is) i)
            at)
        go (inr i) = inr (in_spots code.layouts n.frames table.shared y q
            (subst (λ z. IsMember y z) (sym shared_is) (but_has table.index (shares st) y i d)) at)

    -- an index stands for no location
    stands_nowhere : (y : ℕ) (l : Loc) → IsIndexOf p y → location_of p (sources js) y ≡ Some l → ⊥
    stands_nowhere y l i e = let z : None ≡ Some l =
        sym (ap (location_at (sources js) y) i.1 ∙ ap (location_by (sources js) y i.0) i.2) ∙ e in cc z

    -- the index of a table is that of a forall
    abbrev pub OwnIndex : Type 0
    OwnIndex = (x : ℕ) → table.index ≡ Some x → IsIndexOf p x

    -- a variable that stands for a cell has a spot, and is none of the consoles
    by_role : (y : ℕ) (v : Variable) (r : Role) (q : Name) (k x : ℕ) → location_by (sources js) y v r
        ≡ Some (Cell q k x)
        → HasSpot r ⊎ (r ≡ role.Console)
    by_role y v role.Console q k x e = inr refl
    by_role y v role.Index q k x e = absurd (cc e)
    by_role _ _ _ _ _ _ _ = inl tt

    no_cell : (y : ℕ) (q : Name) (k x : ℕ) → console y ≡ Cell q k x → ⊥
    no_cell zero q k x e = absurd (cc e)
    no_cell (suc y) q k x e = absurd (cc e)

    far_from : (y : ℕ) (v : Variable) → slice_get p.variables y ≡ Some v → HasSpot v.role → nat_lt y 2 ≡ false
    far_from zero v ev hs = let z : Some free.input.0 ≡ Some v = sym free.input.1 ∙ ev in
        let same : free.input.0 ≡ v = cc z in
        absurd (subst HasSpot (sym (ap (λ (i : Variable). i.role) same) ∙ free.input.2) hs)
    far_from (suc zero) v ev hs = let z : Some free.output.0 ≡ Some v = sym free.output.1 ∙ ev in
        let same : free.output.0 ≡ v = cc z in
        absurd (subst HasSpot (sym (ap (λ (i : Variable). i.role) same) ∙ free.output.2) hs)
    far_from (suc (suc y)) v ev hs = beyond y
      where
        beyond : (y : ℕ) → nat_lt (suc (suc y)) 2 ≡ false
        beyond y = Prim.grind arith

    pub found_at : (y : ℕ) (q : Name) (k x : ℕ) → location_of p (sources js) y ≡ Some (Cell q k x)
        → (l : Live p js q k x)
        → spot_of code.layouts (machines js) y ≡ Some (spot_at l.joint.machine.number (slot p x))
    found_at y q k x e l = go (slice_get p.variables y) refl e
      where
        with_variable : (v : Variable) → slice_get p.variables y ≡ Some v → HasSpot v.role
            → spot_of code.layouts (machines js) y ≡ Some (spot_at l.joint.machine.number (slot p x))
        with_variable v ev hs =
            let f = spot_agrees p formed code.layouts laid Called y v ev hs js t.frames.paired
            (far_from y v ev hs) q k x e in
            f.spot ∙ ap (λ (z : FramePair). Some (spot_at z.machine.number (slot p x)))
            (first_same f.live.joint l.joint f.live.rest l.rest (sym f.live.frame_at ∙ l.frame_at))

        console_role : (v : Variable) → v.role ≡ role.Console → location_by (sources js) y v v.role ≡ Some (Cell q k x)
            → spot_of code.layouts (machines js) y ≡ Some (spot_at l.joint.machine.number (slot p x))
        console_role v rc e = let z : Some (console y) ≡ Some (Cell q k x) = sym (ap (location_by (sources js) y v) rc)
            ∙ e in absurd (no_cell y q k x (cc z))

        go : (v : Option Variable) → slice_get p.variables y ≡ v → location_at (sources js) y v ≡ Some (Cell q k x)
            → spot_of code.layouts (machines js) y ≡ Some (spot_at l.joint.machine.number (slot p x))
        go None ev e = absurd (cc e)
        go (Some v) ev e = ⊎_elim (λ (a : HasSpot v.role). with_variable v ev a)
            (λ (a : v.role ≡ role.Console). console_role v a e) (by_role y v v.role q k x e)

    pub reads_handed : OwnIndex → (q : Name) (k x : ℕ) → (l : Live p js q k x) → IsReadable (Cell q k x)
        → R (Cell q k x) × IsHanded h (spot_at l.joint.machine.number (slot p x))
    reads_handed own q k x l (inl mi) = absurd (new_name k l.joint l.rest l.frame_at (l.owner_is ∙ mi))
    reads_handed own q k x l (inr (y, used, stands)) = (
      right_of (Cell q k x) y used stands,
      handed_if y (spot_at l.joint.machine.number (slot p x)) used
          (λ i. stands_nowhere y (Cell q k x) (own y i) stands) (found_at y q k x stands l),
    )

    -- what stands for the input is variable 0, and what stands for the output variable 1
    no_reference : (y : ℕ) (v : Variable) → slice_get p.variables y ≡ Some v → v.role ≡ role.Reference → (c : Loc)
        → ((q : Name) (k x : ℕ) → c ≡ Cell q k x → ⊥)
        → reference_of y (frame_found (is_block v.block) (length (sources js)) (sources js)) ≡ Some c → ⊥
    no_reference y v ev rv c no_c e = by_located (locate (is_block v.block) (length js) js) refl
      where
        found_is : frame_found (is_block v.block) (length (sources js)) (sources js)
            ≡ top (locate (is_block v.block) (length js) js)
        found_is = ap (λ z. frame_found (is_block v.block) z (sources js)) (sources_length js)
            ∙ find_is_located (is_block v.block) js (length js) (length js)
            (subst (λ z. length z ≤ length js) (sym (from_all js)) (omega arith))
            ∙ ap (λ z. top (locate (is_block v.block) (length js) z)) (from_all js)

        by_located : (ks : List FramePair) → locate (is_block v.block) (length js) js ≡ ks → ⊥
        by_located [] d = let z : None ≡ Some c = sym (ap (reference_of y) (found_is ∙ ap top d)) ∙ e in absurd (cc z)
        by_located (j ∷ rest) d =
            let lf = located_from p formed code.layouts laid Called y v ev (subst HasSpot (sym rv) tt) (length js) js j
            rest d in
            let pa = subst (Paired p Called) lf.0 (paired_from p Called (suc (length rest)) js t.frames.paired) in
            let (source, source_is, _, to) = pa.0.references y v ev (home_is v.block j.source.home lf.1) rv in
            let (_, _, points) = to in
            let z : Some source.spot ≡ Some c = sym (ap (reference_of y) (found_is ∙ ap top d) ∙ ap loc_of source_is)
            ∙ e in
            no_c points.owner points.frame points.variable (sym (cc z) ∙ points.cell_is)

    no_own : (y : ℕ) (f : Option Frame) (c : Loc) → ((q : Name) (k x : ℕ) → c ≡ Cell q k x → ⊥) → cell_of y f ≡ Some c
        → ⊥
    no_own y None c no_c e = absurd (cc e)
    no_own y (Some f) c no_c e = no_c f.owner f.number y (sym (cc e))

    abbrev pub IsConsole : ℕ → Type 0
    IsConsole y = (v : Variable) × (slice_get p.variables y ≡ Some v) × (v.role ≡ role.Console)

    pub console_only : (y : ℕ) (c : Loc) → ((q : Name) (k x : ℕ) → c ≡ Cell q k x → ⊥)
        → location_of p (sources js) y ≡ Some c → (console y ≡ c) × IsConsole y
    console_only y c no_c e = go (slice_get p.variables y) refl e
      where
        roles : (v : Variable) → slice_get p.variables y ≡ Some v → (r : Role) → v.role ≡ r
            → location_by (sources js) y v r ≡ Some c → (console y ≡ c) × IsConsole y
        roles v ev role.Console er e = (cc e, (v, ev, er))
        roles v ev role.Local er e =
            absurd (no_own y (frame_found (is_block v.block) (length (sources js)) (sources js)) c
            no_c e)
        roles v ev role.Value er e =
            absurd (no_own y (frame_found (is_block v.block) (length (sources js)) (sources js)) c
            no_c e)
        roles v ev role.Reference er e = absurd (no_reference y v ev er c no_c e)
        roles v ev role.Index er e = absurd (cc e)
        roles v ev role.Answer er e = absurd
            (no_own y (frame_found (is_block v.block) (length (sources js)) (sources js)) c no_c e)

        go : (v : Option Variable) → slice_get p.variables y ≡ v → location_at (sources js) y v ≡ Some c
            → (console y ≡ c)
            × IsConsole y
        go None ev e = absurd (cc e)
        go (Some v) ev e = roles v ev v.role refl e

    pub is_input : (y : ℕ) → console y ≡ Input → y ≡ 0
    is_input zero e = refl
    is_input (suc y) e = absurd (cc e)

    pub input_handed : OwnIndex → IsReadable Input → R Input × IsHanded h position_at.spot
    input_handed own (inl mi) = absurd mi
    input_handed own (inr (y, used, stands)) =
        let y0 : y ≡ 0 = is_input y (console_only y Input (λ q k x e. absurd (cc e)) stands).0 in (
          right_of Input y used stands,
          handed_if y position_at.spot used (λ i. stands_nowhere y Input (own y i) stands)
              (ap (λ z. spot_of code.layouts (machines js) z) y0),
        )

    is_output : (y : ℕ) → console y ≡ Output → y < 2 → y ≡ 1
    is_output zero e l = absurd (cc e)
    is_output (suc zero) e l = refl
    is_output (suc (suc y)) e l = absurd (omega (arith, l))

    -- the output moves, as nothing reads it
    pub output_handed : ((y : ℕ) (v : Variable) → slice_get p.variables y ≡ Some v → v.role ≡ role.Console → y < 2)
        → IsReadable Output → R Output × In output_spot h.moved
    output_handed consoles (inl mi) = absurd mi
    output_handed consoles (inr (y, used, stands)) =
        let (output_is, console_is) = console_only y Output (λ q k x e. absurd (cc e)) stands in
        let (v, known, role_is) = console_is in
        let y1 : y ≡ 1 = is_output y output_is (consoles y v known role_is) in
        let target = unread (subst (λ z. IsUsed p (In_stmt st) z) y1 used) in (
          right_of Output y used stands,
          in_spots code.layouts n.frames table.moved 1 output_spot
              (subst (λ z. IsMember 1 z) (sym moved_is) (sets.moved st 1 target)) refl,
        )

    -- an index that the child uses, other than its own, is held by its parent, and handed over
    pub index_handed : (sc : List Scope) → Chain sc js → (k : ℕ) → (z : Seen sc js st k) → (table.index ≡ Some z.0 → ⊥)
        → J k → (j : FramePair) (rest : List FramePair) → pairs_from (suc k) js ≡ j ∷ rest → J k
        × IsHanded h (spot_at j.machine.number 0)
    index_handed sc chain k (used, up, seen, level_is, (holder, above, outward, height)) other held j rest e =
        let at : pairs_from (suc k) js ≡ holder ∷ above = ap (λ y. pairs_from (suc y) js) (sym height)
        ∙ up_from up js holder above outward in
        let same : holder ≡ j = first_same holder j above rest (sym at ∙ e) in
        let f = found (is_index_home used) (is_index used) (index_agrees used) sc js up chain level_is in
        let fj : f.frame ≡ holder = first_same f.frame holder f.rest above (sym f.frame_at ∙ outward) in
        let pa = subst (Paired p Called) at (paired_from p Called (suc k) js t.frames.paired) in
        let v = index_known used holder.source.home holder.machine.home pa.0.homes
        (subst (λ (y : FramePair). is_index_home used y.source.home ≡ true) fj f.fit) in (
          held,
          handed_if used (spot_at j.machine.number 0) (inr ([], seen)) other
              (ap (λ b. if b then Some (record { frame = 0; variable = used }) else
              spot_from code.layouts (length (machines js)) (machines js) used) (far_index used v.0 v.1 v.2)
              ∙ index_spot p formed code.layouts laid Called used v.0 v.1 v.2 sc
              (length (machines js)) js chain t.frames.paired
              (subst (λ y. length js ≤ y) (sym (machines_length js)) (omega arith)) up level_is holder above outward
              ∙ ap (λ (y : FramePair). Some (spot_at y.machine.number 0)) same),
        )
      where
        index_known : (x : ℕ) (a : Home) (c : m.Home) → HomesAre p a c → is_index_home x a ≡ true → IsIndexOf p x
        index_known x (OfBlock b) c ho i = absurd (cc i)
        index_known x (OfIndex y w) (m.OfBlock c) ho i = absurd ho
        index_known x (OfIndex y w) (m.OfIndex c) ho i = subst (λ y. IsIndexOf p y) (sym (eqb-true x y i)) ho.1

        far_index : (y : ℕ) (v : Variable) → slice_get p.variables y ≡ Some v → v.role ≡ role.Index → nat_lt y 2 ≡ false
        far_index zero v ev iv = absurd (no_index_console v free.input.0 (sym ev ∙ free.input.1) iv free.input.2)
        far_index (suc zero) v ev iv = absurd
            (no_index_console v free.output.0 (sym ev ∙ free.output.1) iv free.output.2)
        far_index (suc (suc y)) v ev iv = beyond y
          where
            beyond : (y : ℕ) → nat_lt (suc (suc y)) 2 ≡ false
            beyond y = Prim.grind arith

    -- what moves is held
    pub moved_known : ((y : ℕ) (v : Variable) → slice_get p.variables y ≡ Some v → v.role ≡ role.Console → y < 2)
        → ((y : ℕ) → IsIndexOf p y → IsTarget p (In_stmt st) y → ⊥)
        → ((y : ℕ) → IsTarget p (In_stmt st) y → (v : Variable) × (slice_get p.variables y ≡ Some v)) → (q : Spot)
        → In q h.moved → IsSome (fin.get n.store.map q)
    moved_known consoles no_index declared q i =
        let a = spots_from code.layouts n.frames table.moved q i in
        let target = sets.moved_only st a.0 (subst (λ z. IsMember a.0 z) moved_is a.1) in
        let v = declared a.0 target in
        by_role a.0 v.0 v.1 target
        (ap (λ z. spot_of code.layouts z a.0) (sym t.frames.machines_are) ∙ a.2) v.0.role refl
      where
        by_spot : (y : ℕ) (v : Variable) → slice_get p.variables y ≡ Some v → IsTarget p (In_stmt st) y
            → spot_of code.layouts (machines js) y ≡ Some q → HasSpot v.role → IsSome (fin.get n.store.map q)
        by_spot y v ev target e hs =
            let far = far_from y v ev hs in
            let (owner, height, variable, stood) = stands_for p formed code.layouts laid Called y v ev hs js
            t.frames.paired far q e in
            let f = spot_agrees p formed code.layouts laid Called y v ev hs js t.frames.paired far owner height variable
            stood in
            let z : Some q ≡ Some (spot_at f.live.joint.machine.number (slot p variable)) = sym e ∙ f.spot in
            let same : q ≡ spot_at f.live.joint.machine.number (slot p variable) = cc z in
            let held = t.held owner height variable f.live (right_of (Cell owner height variable) y (inl target) stood)
            in
            subst (λ z. IsSome (fin.get n.store.map z)) (sym same)
            (known_piece (fin.get n.store.map (spot_at f.live.joint.machine.number (slot p variable))) held.cells
            held.piece)

        console_spot : (y : ℕ) (v : Variable) → slice_get p.variables y ≡ Some v → v.role ≡ role.Console
            → IsTarget p (In_stmt st) y → spot_of code.layouts (machines js) y ≡ Some q → y < 2
            → IsSome (fin.get n.store.map q)
        console_spot zero v ev rv target e l =
            let z : Some position_at.spot ≡ Some q = e in
            let held = t.position (right_of Input 0 (inl target)
            (ap (location_at (sources js) 0) ev ∙ ap (location_by (sources js) 0 v) rv)) in
            subst (λ z. IsSome (fin.get n.store.map z)) (cc z)
            (known_piece (fin.get n.store.map position_at.spot) _ held.2)
        console_spot (suc zero) v ev rv target e l =
            let z : Some output_spot ≡ Some q = e in
            let held = t.output (right_of Output 1 (inl target)
            (ap (location_at (sources js) 1) ev ∙ ap (location_by (sources js) 1 v) rv)) in
            subst (λ z. IsSome (fin.get n.store.map z)) (cc z) (known_as held.2)
        console_spot (suc (suc y)) v ev rv target e l = absurd (omega (arith, l))

        by_role : (y : ℕ) (v : Variable) → slice_get p.variables y ≡ Some v → IsTarget p (In_stmt st) y
            → spot_of code.layouts (machines js) y ≡ Some q → (r : Role) → v.role ≡ r → IsSome (fin.get n.store.map q)
        by_role y v ev target e role.Console er = console_spot y v ev er target e (consoles y v ev er)
        by_role y v ev target e role.Index er = absurd (no_index y (v, ev, er) target)
        by_role y v ev target e _ er = by_spot y v ev target e (subst HasSpot (sym er) tt)

    -- of what it holds itself, what moves to the child is what the child aims at
    pub moved_aimed : ((y : ℕ) (v : Variable) → slice_get p.variables y ≡ Some v → v.role ≡ role.Console → y < 2)
        → ((y : ℕ) → IsIndexOf p y → IsTarget p (In_stmt st) y → ⊥)
        → ((y : ℕ) → IsTarget p (In_stmt st) y → (v : Variable) × (slice_get p.variables y ≡ Some v))
        → (q : Name) (k x : ℕ) → (l : Live p js q k x) → R (Cell q k x)
        → In (spot_at l.joint.machine.number (slot p x)) h.moved → Aimed p (sources js) st (Cell q k x)
    moved_aimed consoles no_index declared q k x l r i =
        let a = spots_from code.layouts n.frames table.moved (spot_at l.joint.machine.number (slot p x)) i in
        let target = sets.moved_only st a.0 (subst (λ z. IsMember a.0 z) moved_is a.1) in
        let v = declared a.0 target in
        by_role a.0 v.0 v.1 target
        (ap (λ z. spot_of code.layouts z a.0) (sym t.frames.machines_are) ∙ a.2) v.0.role refl
      where
        by_spot : (y : ℕ) (v : Variable) → slice_get p.variables y ≡ Some v → IsTarget p (In_stmt st) y
            → spot_of code.layouts (machines js) y ≡ Some (spot_at l.joint.machine.number (slot p x)) → HasSpot v.role
            → Aimed p (sources js) st (Cell q k x)
        by_spot y v ev target e hs =
            let far = far_from y v ev hs in
            let (owner, height, variable, stood) = stands_for p formed code.layouts laid Called y v ev hs js
            t.frames.paired far
            (spot_at l.joint.machine.number (slot p x)) e in
            let f = spot_agrees p formed code.layouts laid Called y v ev hs js t.frames.paired far owner height variable
            stood in
            let z : Some (spot_at l.joint.machine.number (slot p x))
            ≡ Some (spot_at f.live.joint.machine.number (slot p variable)) = sym e ∙ f.spot in
            let both = spots_same l.joint.machine.number (slot p x) f.live.joint.machine.number (slot p variable) z in
            let numbers : l.joint.machine.number ≡ f.live.joint.machine.number = both.0 in
            let slots : slot p x ≡ slot p variable = both.1 in
            let rc = right_of (Cell owner height variable) y (inl target) stood in
            let hk : k ≡ height = t.frames.apart k height l.joint f.live.joint l.rest f.live.rest l.frame_at
            f.live.frame_at
            (inl (q, x, l, r))
            (inl (owner, variable, f.live, rc)) numbers in
            let jj : l.joint ≡ f.live.joint =
            first_same l.joint f.live.joint l.rest f.live.rest
            (sym l.frame_at ∙ ap (λ a. pairs_from (suc a) js) hk ∙ f.live.frame_at) in
            let homes : OfBlock l.info.block ≡ OfBlock f.live.info.block = sym l.home
            ∙ ap (λ (y : FramePair). y.source.home) jj ∙ f.live.home in
            let blocks : l.info.block ≡ f.live.info.block = blocks_same l.info.block f.live.info.block homes in
            let xx : x ≡ variable = slot_same p formed x variable l.info f.live.info l.known f.live.known blocks l.owns
            slots in
            let qq : q ≡ owner = sym l.owner_is ∙ ap (λ (y : FramePair). y.source.owner) jj ∙ f.live.owner_is in (
              y,
              target,
              stood ∙ ap (λ a. Some (Cell a height variable)) (sym qq) ∙ ap (λ a. Some (Cell q a variable)) (sym hk)
                  ∙ ap (λ a. Some (Cell q k a)) (sym xx),
            )

        no_console : (y : ℕ) → R Input ⊎ R Output → y < 2 → l.joint.machine.number ≡ 0 → slot p x ≡ y → ⊥
        no_console y rc lt number sl =
            let (frame, rest, from, number_is) = t.frames.bottom rc in
            let k0 : k ≡ 0 = t.frames.apart k 0 l.joint frame l.rest rest l.frame_at from (inl (q, x, l, r))
            (inr (inr (inl (rc, refl))))
            (number ∙ sym number_is) in
            let jj : l.joint ≡ frame = first_same l.joint frame l.rest rest
            (sym l.frame_at ∙ ap (λ a. pairs_from (suc a) js) k0 ∙ from) in
            let homes : OfBlock l.info.block ≡ OfBlock 0 = sym l.home ∙ ap (λ (y : FramePair). y.source.home) jj
            ∙ t.frames.root frame rest from in
            let low = slot_low p formed x l.info l.known (blocks_same l.info.block 0 homes) in
            omega (arith, low, sl, lt)

        console_spot : (y : ℕ) (v : Variable) → slice_get p.variables y ≡ Some v → v.role ≡ role.Console
            → IsTarget p (In_stmt st) y → spot_of code.layouts (machines js) y
            ≡ Some (spot_at l.joint.machine.number (slot p x)) → y < 2 → Aimed p (sources js) st (Cell q k x)
        console_spot zero v ev rv target e lt =
            let z : Some position_at.spot ≡ Some (spot_at l.joint.machine.number (slot p x)) = e in
            let both = spots_same 0 0 l.joint.machine.number (slot p x) z in
            let number : 0 ≡ l.joint.machine.number = both.0 in
            let at : 0 ≡ slot p x = both.1 in
            absurd (no_console 0 (inl (right_of Input 0 (inl target)
            (ap (location_at (sources js) 0) ev ∙ ap (location_by (sources js) 0 v) rv))) lt (sym number) (sym at))
        console_spot (suc zero) v ev rv target e lt =
            let z : Some output_spot ≡ Some (spot_at l.joint.machine.number (slot p x)) = e in
            let both = spots_same 0 1 l.joint.machine.number (slot p x) z in
            let number : 0 ≡ l.joint.machine.number = both.0 in
            let at : 1 ≡ slot p x = both.1 in
            absurd (no_console 1 (inr (right_of Output 1 (inl target)
            (ap (location_at (sources js) 1) ev ∙ ap (location_by (sources js) 1 v) rv))) lt (sym number) (sym at))
        console_spot (suc (suc y)) v ev rv target e lt = absurd (omega (arith, lt))

        by_role : (y : ℕ) (v : Variable) → slice_get p.variables y ≡ Some v → IsTarget p (In_stmt st) y
            → spot_of code.layouts (machines js) y ≡ Some (spot_at l.joint.machine.number (slot p x)) → (a : Role)
            → v.role ≡ a → Aimed p (sources js) st (Cell q k x)
        by_role y v ev target e role.Console er = console_spot y v ev er target e (consoles y v ev er)
        by_role y v ev target e role.Index er = absurd (no_index y (v, ev, er) target)
        by_role y v ev target e _ er = by_spot y v ev target e (subst HasSpot (sym er) tt)

    -- what moves is a console or a variable, at which the child aims
    abbrev pub MovedStands : Spot → Type 0
    MovedStands q =
        ((q ≡ position_at.spot) × Aimed p (sources js) st Input)
        ⊎ (((q ≡ output_spot) × Aimed p (sources js) st Output)
        ⊎ ((r : Name) × (k : ℕ) × (x : ℕ) × (l : Live p js r k x) × Aimed p (sources js) st (Cell r k x)
        × R (Cell r k x) × (q ≡ spot_at l.joint.machine.number (slot p x))))

    pub moved_stands : ((y : ℕ) (v : Variable) → slice_get p.variables y ≡ Some v → v.role ≡ role.Console → y < 2)
        → ((y : ℕ) → IsIndexOf p y → IsTarget p (In_stmt st) y → ⊥)
        → ((y : ℕ) → IsTarget p (In_stmt st) y → (v : Variable) × (slice_get p.variables y ≡ Some v)) → (q : Spot)
        → In q h.moved → MovedStands q
    moved_stands consoles no_index declared q i =
        let a = spots_from code.layouts n.frames table.moved q i in
        let target = sets.moved_only st a.0 (subst (λ z. IsMember a.0 z) moved_is a.1) in
        let v = declared a.0 target in
        by_role a.0 v.0 v.1 target
        (ap (λ z. spot_of code.layouts z a.0) (sym t.frames.machines_are) ∙ a.2) v.0.role refl
      where
        by_spot : (y : ℕ) (v : Variable) → slice_get p.variables y ≡ Some v → IsTarget p (In_stmt st) y
            → spot_of code.layouts (machines js) y ≡ Some q → HasSpot v.role → MovedStands q
        by_spot y v ev target e hs =
            let far = far_from y v ev hs in
            let (owner, height, variable, stood) = stands_for p formed code.layouts laid Called y v ev hs js
            t.frames.paired far q e in
            let f = spot_agrees p formed code.layouts laid Called y v ev hs js t.frames.paired far owner height variable
            stood in
            let z : Some q ≡ Some (spot_at f.live.joint.machine.number (slot p variable)) = sym e ∙ f.spot in
            inr (inr (
              owner,
              height,
              variable,
              f.live,
              (y, target, stood),
              right_of (Cell owner height variable) y (inl target) stood,
              same_Some q (spot_at f.live.joint.machine.number (slot p variable)) z,
            ))

        console_spot : (y : ℕ) (v : Variable) → slice_get p.variables y ≡ Some v → v.role ≡ role.Console
            → IsTarget p (In_stmt st) y → spot_of code.layouts (machines js) y ≡ Some q → y < 2 → MovedStands q
        console_spot zero v ev rv target e l =
            let z : Some position_at.spot ≡ Some q = e in
            inl (
              sym (same_Some position_at.spot q z),
              (0, target, ap (location_at (sources js) 0) ev ∙ ap (location_by (sources js) 0 v) rv),
            )
        console_spot (suc zero) v ev rv target e l =
            let z : Some output_spot ≡ Some q = e in
            inr (inl (
              sym (same_Some output_spot q z),
              (1, target, ap (location_at (sources js) 1) ev ∙ ap (location_by (sources js) 1 v) rv),
            ))
        console_spot (suc (suc y)) v ev rv target e l = absurd (omega (arith, l))

        by_role : (y : ℕ) (v : Variable) → slice_get p.variables y ≡ Some v → IsTarget p (In_stmt st) y
            → spot_of code.layouts (machines js) y ≡ Some q → (a : Role) → v.role ≡ a → MovedStands q
        by_role y v ev target e role.Console er = console_spot y v ev er target e (consoles y v ev er)
        by_role y v ev target e role.Index er = absurd (no_index y (v, ev, er) target)
        by_role y v ev target e _ er = by_spot y v ev target e (subst HasSpot (sym er) tt)

    -- a variable that is held is none of the consoles, where one of them is held
    pub no_console_spot : (y : ℕ) (r : Name) (k x : ℕ) (l : Live p js r k x) → R (Cell r k x) → R Input ⊎ R Output
        → y < 2 → spot_at l.joint.machine.number (slot p x) ≡ spot_at 0 y → ⊥
    no_console_spot y r k x l may rc lt e =
        let both = spots_same l.joint.machine.number (slot p x) 0 y (ap Some e) in
        let (frame, rest, from, number_is) = t.frames.bottom rc in
        let k0 : k ≡ 0 = t.frames.apart k 0 l.joint frame l.rest rest l.frame_at from (inl (r, x, l, may))
        (inr (inr (inl (rc, refl))))
        (both.0 ∙ sym number_is) in
        let jj : l.joint ≡ frame = first_same l.joint frame l.rest rest
        (sym l.frame_at ∙ ap (λ a. pairs_from (suc a) js) k0
        ∙ from) in
        let homes : OfBlock l.info.block ≡ OfBlock 0 = sym l.home ∙ ap (λ (y : FramePair). y.source.home) jj
        ∙ t.frames.root frame rest from in
        let low = slot_low p formed x l.info l.known (blocks_same l.info.block 0 homes) in
        omega (arith, low, both.1, lt)

    -- nor is an index that is held
    pub no_index_spot : (r : Name) (k x : ℕ) (l : Live p js r k x) → R (Cell r k x) → (h : ℕ) → J h
        → (j : FramePair) (rest : List FramePair) (y : ℕ) (v : ℤ) → pairs_from (suc h) js ≡ j ∷ rest
        → j.source.home ≡ OfIndex y v
        → spot_at l.joint.machine.number (slot p x) ≡ spot_at j.machine.number 0 → ⊥
    no_index_spot r k x l may h jh j rest y v e hi q =
        let both = spots_same l.joint.machine.number (slot p x) j.machine.number 0 (ap Some q) in
        let kh : k ≡ h = t.frames.apart k h l.joint j l.rest rest l.frame_at e (inl (r, x, l, may))
        (inr (inl (jh, (j, rest, y, v, e, hi)))) both.0 in
        let jj : l.joint ≡ j = first_same l.joint j l.rest rest
        (sym l.frame_at ∙ ap (λ a. pairs_from (suc a) js) kh ∙ e) in
        no_home l.info.block y v (sym l.home ∙ ap (λ (y : FramePair). y.source.home) jj ∙ hi)
      where
        no_home : (a b : ℕ) (w : ℤ) → OfBlock a ≡ OfIndex b w → ⊥
        no_home a b w e = cc e

    -- an index that is held is no console's spot
    pub index_no_console : (h : ℕ) → J h → (j : FramePair) (rest : List FramePair) (y : ℕ) (v : ℤ)
        → pairs_from (suc h) js ≡ j ∷ rest
        → j.source.home ≡ OfIndex y v → R Input ⊎ R Output → j.machine.number ≡ 0 → ⊥
    index_no_console h jh j rest y v e hi rc number =
        let (frame, above, from, number_is) = t.frames.bottom rc in
        let h0 : h ≡ 0 = t.frames.apart h 0 j frame rest above e from (inr (inl (jh, (j, rest, y, v, e, hi))))
        (inr (inr (inl (rc, refl)))) (number ∙ sym number_is) in
        let jj : j ≡ frame = first_same j frame rest above (sym e ∙ ap (λ a. pairs_from (suc a) js) h0 ∙ from) in
        no_home 0 y v (sym (t.frames.root frame above from) ∙ ap (λ (y : FramePair). y.source.home) (sym jj) ∙ hi)
      where
        no_home : (x z : ℕ) (w : ℤ) → OfBlock x ≡ OfIndex z w → ⊥
        no_home x z w e = cc e

    -- ---- two variables of the statement with one spot are one

    touched : (y : ℕ) (u : IsUsed p (In_stmt st) y) (l : Loc) → location_of p (sources js) y ≡ Some l → (bs : List ℕ)
        × (a : Use) × Reach p (In_stmt st) bs a × Touches p (sources js) a y l
    touched y (inl a) l e = (a.0, Target y, a.1, (refl, e))
    touched y (inr a) l e = (a.0, use_of.Seen y, a.1, (refl, e))

    one_location : (y z : ℕ) → IsUsed p (In_stmt st) y → IsUsed p (In_stmt st) z → (l : Loc)
        → location_of p (sources js) y ≡ Some l → location_of p (sources js) z ≡ Some l → y ≡ z
    one_location y z a b l e f = go (cases_eq y z)
      where
        go : (y ≡ z) ⊎ (y ≢ z) → y ≡ z
        go (inl h) = h
        go (inr h) =
            let (blocks1, use1, reached1, touches1) = touched y a l e in
            let (blocks2, use2, reached2, touches2) = touched z b l f in
            absurd (so.apart blocks1 blocks2 use1 use2 reached1 reached2 y z l h touches1 touches2)

    -- what a variable with a spot stands for is held
    pub record HeldSpot (y : ℕ) (q : Spot) : Type 0 where
      pub owner : Name
      pub height : ℕ
      pub variable : ℕ
      pub stood : location_of p (sources js) y ≡ Some (Cell owner height variable)
      pub live : Live p js owner height variable
      pub spot : q ≡ spot_at live.joint.machine.number (slot p variable)
      pub may : R (Cell owner height variable)

    held_spot : (y : ℕ) (v : Variable) → slice_get p.variables y ≡ Some v → IsUsed p (In_stmt st) y → HasSpot v.role
        → (q : Spot) → spot_of code.layouts (machines js) y ≡ Some q → HeldSpot y q
    held_spot y v ev u hs q e =
        let far = far_from y v ev hs in
        let (name, level_of, x, stands) = stands_for p formed code.layouts laid Called y v ev hs js t.frames.paired far
        q e in
        let f = spot_agrees p formed code.layouts laid Called y v ev hs js t.frames.paired far name level_of x stands in
        record {
          owner = name;
          height = level_of;
          variable = x;
          stood = stands;
          live = f.live;
          spot = same_Some q (spot_at f.live.joint.machine.number (slot p x)) (sym e ∙ f.spot);
          may = right_of (Cell name level_of x) y u stands;
        }

    both_held : (y z : ℕ) (q : Spot) → HeldSpot y q → HeldSpot z q → (l : Loc) × (location_of p (sources js) y ≡ Some l)
        × (location_of p (sources js) z ≡ Some l)
    both_held y z q a b =
        let both = spots_same a.live.joint.machine.number (slot p a.variable) b.live.joint.machine.number
        (slot p b.variable) (ap Some (sym a.spot ∙ b.spot)) in
        let hk : a.height ≡ b.height = t.frames.apart a.height b.height a.live.joint b.live.joint a.live.rest
        b.live.rest
        a.live.frame_at b.live.frame_at (inl (a.owner, a.variable, a.live, a.may))
        (inl (b.owner, b.variable, b.live, b.may))
        both.0 in
        let jj : a.live.joint ≡ b.live.joint =
        first_same a.live.joint b.live.joint a.live.rest b.live.rest
        (sym a.live.frame_at ∙ ap (λ y. pairs_from (suc y) js) hk ∙ b.live.frame_at) in
        let homes : OfBlock a.live.info.block ≡ OfBlock b.live.info.block = sym a.live.home
        ∙ ap (λ (y : FramePair). y.source.home) jj ∙ b.live.home in
        let xx : a.variable ≡ b.variable = slot_same p formed a.variable b.variable a.live.info b.live.info a.live.known
        b.live.known (blocks_same a.live.info.block b.live.info.block homes) a.live.owns both.1 in
        let qq : a.owner ≡ b.owner = sym a.live.owner_is ∙ ap (λ (y : FramePair). y.source.owner) jj
        ∙ b.live.owner_is in (
          Cell a.owner a.height a.variable,
          a.stood,
          b.stood ∙ ap (λ y. Some (Cell y b.height b.variable)) (sym qq)
              ∙ ap (λ y. Some (Cell a.owner y b.variable)) (sym hk) ∙ ap (λ y. Some (Cell a.owner a.height y)) (sym xx),
        )

    -- where neither is an index or a console
    pub used_once : (y z : ℕ) (v u : Variable) → slice_get p.variables y ≡ Some v → slice_get p.variables z ≡ Some u
        → HasSpot v.role → HasSpot u.role → IsUsed p (In_stmt st) y → IsUsed p (In_stmt st) z
        → (q : Spot) → spot_of code.layouts (machines js) y ≡ Some q → spot_of code.layouts (machines js) z ≡ Some q
        → y ≡ z
    used_once y z v u ev eu hv hu a b q e f =
        let c = both_held y z q (held_spot y v ev a hv q e) (held_spot z u eu b hu q f) in
        one_location y z a b c.0 c.1 c.2

    -- ---- what is shared

    -- what is shared is the input, a variable, or an index, and is held; scoped: a variable that is used is declared,
    -- and an index other than the child's own in scope
    pub record IndexStands (q : Spot) : Type 0 where
      pub height : ℕ
      pub is_held : J height
      pub frame : FramePair
      pub rest : List FramePair
      pub index : ℕ
      pub at_value : ℤ
      pub from : pairs_from (suc height) js ≡ frame ∷ rest
      pub home_is : frame.source.home ≡ OfIndex index at_value
      pub spot_is : q ≡ spot_at frame.machine.number 0

    pub record CellStands (q : Spot) : Type 0 where
      pub owner : Name
      pub height : ℕ
      pub variable : ℕ
      pub live : Live p js owner height variable
      pub may : R (Cell owner height variable)
      pub spot_is : q ≡ spot_at live.joint.machine.number (slot p variable)

    abbrev pub SharedStands : Spot → Type 0
    SharedStands q = ((q ≡ position_at.spot) × R Input) ⊎ (CellStands q ⊎ IndexStands q)

    module _ (consoles : (y : ℕ) (v : Variable) → slice_get p.variables y ≡ Some v → v.role ≡ role.Console → y < 2)
        (sc : List Scope) (chain : Chain sc js)
        (held_index : (x up : ℕ) → (table.index ≡ Some x → ⊥) → In_stmt st (use_of.Seen x)
        → level (is_index x) sc ≡ Some up → (j : FramePair) (rest : List FramePair) → up_at up js ≡ j ∷ rest
        → J (length rest))
        (scoped : (y : ℕ) → IsUsed p (In_stmt st) y → (table.index ≡ Some y → ⊥) → (v : Variable)
        × (slice_get p.variables y ≡ Some v)
        × (v.role ≡ role.Index → In_stmt st (use_of.Seen y) × ((up : ℕ) × (level (is_index y) sc ≡ Some up)))) where
      index_home : (x : ℕ) (a : Home) → is_index_home x a ≡ true → (w : ℤ) × (a ≡ OfIndex x w)
      index_home x (OfBlock b) e = absurd (cc e)
      index_home x (OfIndex y w) e = (w, ap (λ z. OfIndex z w) (sym (eqb-true x y e)))

      far_index : (y : ℕ) (v : Variable) → slice_get p.variables y ≡ Some v → v.role ≡ role.Index → nat_lt y 2 ≡ false
      far_index zero v ev iv = absurd (no_index_console v free.input.0 (sym ev ∙ free.input.1) iv free.input.2)
      far_index (suc zero) v ev iv = absurd (no_index_console v free.output.0 (sym ev ∙ free.output.1) iv free.output.2)
      far_index (suc (suc y)) v ev iv = beyond y
        where
          beyond : (y : ℕ) → nat_lt (suc (suc y)) 2 ≡ false
          beyond y = Prim.grind arith

      -- an index other than the child's own is held in its frame
      index_stands : (y : ℕ) (v : Variable) → slice_get p.variables y ≡ Some v → v.role ≡ role.Index
          → (table.index ≡ Some y → ⊥) → In_stmt st (use_of.Seen y) → (up : ℕ) → level (is_index y) sc ≡ Some up
          → (q : Spot) → spot_of code.layouts (machines js) y ≡ Some q → IndexStands q
      index_stands y v ev iv other direct up lev q e =
          let f = found (is_index_home y) (is_index y) (index_agrees y) sc js up chain lev in
          let w = index_home y f.frame.source.home f.fit in
          let at = ap (λ b. if b then Some (record { frame = 0; variable = y }) else
          spot_from code.layouts (length (machines js)) (machines js) y) (far_index y v ev iv)
          ∙ index_spot p formed code.layouts laid Called y v ev iv sc (length (machines js)) js chain t.frames.paired
          (subst (λ z. length js ≤ z) (sym (machines_length js)) (omega arith)) up lev f.frame f.rest f.frame_at in
          record {
            height = length f.rest;
            is_held = held_index y up other direct lev f.frame f.rest f.frame_at;
            frame = f.frame;
            rest = f.rest;
            index = y;
            at_value = w.0;
            from = up_from up js f.frame f.rest f.frame_at;
            home_is = w.1;
            spot_is = same_Some q (spot_at f.frame.machine.number 0) (sym e ∙ at);
          }

      pub shared_stands : (q : Spot) → In q h.shared → SharedStands q
      shared_stands q i =
          let a = spots_from code.layouts n.frames table.shared q i in
          let member = but_only table.index (shares st) a.0 (subst (λ z. IsMember a.0 z) shared_is a.1) in
          let used = sets.shared_only st a.0 member.0 in
          let v = scoped a.0 used member.1 in
          by_role a.0 v.0 v.1 member.0 used member.1
          (ap (λ z. spot_of code.layouts z a.0) (sym t.frames.machines_are) ∙ a.2)
          v.2 v.0.role refl
        where
          by_spot : (y : ℕ) (v : Variable) → slice_get p.variables y ≡ Some v → IsUsed p (In_stmt st) y
              → spot_of code.layouts (machines js) y ≡ Some q → HasSpot v.role → SharedStands q
          by_spot y v ev used e hs =
              let far = far_from y v ev hs in
              let (owner, height, variable, stood) = stands_for p formed code.layouts laid Called y v ev hs js
              t.frames.paired far q e in
              let f = spot_agrees p formed code.layouts laid Called y v ev hs js t.frames.paired far owner height
              variable stood in
              let z : Some q ≡ Some (spot_at f.live.joint.machine.number (slot p variable)) = sym e ∙ f.spot in
              inr (inl (record {
                owner = owner;
                height = height;
                variable = variable;
                live = f.live;
                may = right_of (Cell owner height variable) y used stood;
                spot_is = same_Some q (spot_at f.live.joint.machine.number (slot p variable)) z;
              }))

          console_spot : (y : ℕ) (v : Variable) → slice_get p.variables y ≡ Some v → v.role ≡ role.Console
              → IsMember y (shares st) → IsUsed p (In_stmt st) y → spot_of code.layouts (machines js) y ≡ Some q → y < 2
              → SharedStands q
          console_spot zero v ev rv member used e l =
              let z : Some position_at.spot ≡ Some q = e in
              inl (
                sym (same_Some position_at.spot q z),
                right_of Input 0 used (ap (location_at (sources js) 0) ev ∙ ap (location_by (sources js) 0 v) rv),
              )
          console_spot (suc zero) v ev rv member used e l =
              absurd (sets.apart st 1 (sets.moved st 1 (unread used)) member)
          console_spot (suc (suc y)) v ev rv member used e l = absurd (omega (arith, l))

          by_role : (y : ℕ) (v : Variable) → slice_get p.variables y ≡ Some v → IsMember y (shares st)
              → IsUsed p (In_stmt st) y → (table.index ≡ Some y → ⊥) → spot_of code.layouts (machines js) y ≡ Some q
              → (v.role ≡ role.Index → In_stmt st (use_of.Seen y) × ((up : ℕ) × (level (is_index y) sc ≡ Some up)))
              → (a : Role) → v.role ≡ a → SharedStands q
          by_role y v ev member used other e s role.Console er =
              console_spot y v ev er member used e (consoles y v ev er)
          by_role y v ev member used other e s role.Index er =
              let (direct, scope) = s er in
              inr (inr (index_stands y v ev er other direct scope.0 scope.1 q e))
          by_role y v ev _ used _ e _ _ er = by_spot y v ev used e (subst HasSpot (sym er) tt)

      -- so its parent has a piece there
      pub shared_piece : (q : Spot) → In q h.shared → IsPiece (fin.get n.store.map q)
      shared_piece q i = by (shared_stands q i)
        where
          by : SharedStands q → IsPiece (fin.get n.store.map q)
          by (inl (spot_is, may)) = let z = t.position may in
              subst (λ y. IsPiece (fin.get n.store.map y)) (sym spot_is)
              (piece_of_cells (fin.get n.store.map position_at.spot) _ z.2)
          by (inr (inl c)) =
              let z = t.held c.owner c.height c.variable c.live c.may in
              subst (λ y. IsPiece (fin.get n.store.map y)) (sym c.spot_is)
              (piece_of_cells (fin.get n.store.map (spot_at c.live.joint.machine.number (slot p c.variable))) z.cells
              z.piece)
          by (inr (inr i)) = subst (λ y. IsPiece (fin.get n.store.map y)) (sym i.spot_is)
              (piece_of_cells (fin.get n.store.map (spot_at i.frame.machine.number 0)) _
              (t.indexes i.height i.is_held i.frame i.rest i.index i.at_value i.from i.home_is))

      -- and the output, where the parent holds it, is not shared
      pub output_unshared : R Output → In output_spot h.shared → ⊥
      output_unshared may i = by (shared_stands output_spot i)
        where
          by : SharedStands output_spot → ⊥
          by (inl (spot_is, _)) = let bad : 1 ≡ 0 = ap (λ (y : Spot). y.variable) spot_is in omega (arith, bad)
          by (inr (inl c)) = no_console_spot 1 c.owner c.height c.variable c.live c.may (inr may) (omega arith)
              (sym c.spot_is)
          by (inr (inr i)) = let bad : 1 ≡ 0 = ap (λ (y : Spot). y.variable) i.spot_is in omega (arith, bad)

      -- two variables of the statement with one spot are one, where the first is no index
      pub once : (y z : ℕ) → IsUsed p (In_stmt st) y → IsUsed p (In_stmt st) z → (IsIndexOf p y → ⊥)
          → (table.index ≡ Some y → ⊥) → (table.index ≡ Some z → ⊥) → (q : Spot)
          → spot_of code.layouts (machines js) y ≡ Some q → spot_of code.layouts (machines js) z ≡ Some q → y ≡ z
      once y z a b no_index oy oz q e f = by (scoped y a oy) (scoped z b oz)
        where
          kind_of : (r : Role) → (r ≡ role.Console) ⊎ (HasSpot r ⊎ (r ≡ role.Index))
          kind_of role.Console = inl refl
          kind_of role.Local = inr (inl tt)
          kind_of role.Value = inr (inl tt)
          kind_of role.Reference = inr (inl tt)
          kind_of role.Index = inr (inr refl)
          kind_of role.Answer = inr (inl tt)

          console_at : (x : ℕ) → x < 2 → spot_of code.layouts (machines js) x ≡ Some q → q ≡ spot_at 0 x
          console_at zero l g = sym (same_Some (spot_at 0 0) q g)
          console_at (suc zero) l g = sym (same_Some (spot_at 0 1) q g)
          console_at (suc (suc x)) l g = absurd (omega (arith, l))

          console_right : (x : ℕ) (v : Variable) → slice_get p.variables x ≡ Some v → v.role ≡ role.Console
              → IsUsed p (In_stmt st) x → x < 2 → R Input ⊎ R Output
          console_right zero v ev rv u l = inl
              (right_of Input 0 u (ap (location_at (sources js) 0) ev ∙ ap (location_by (sources js) 0 v) rv))
          console_right (suc zero) v ev rv u l =
              inr (right_of Output 1 u (ap (location_at (sources js) 1) ev ∙ ap (location_by (sources js) 1 v) rv))
          console_right (suc (suc x)) v ev rv u l = absurd (omega (arith, l))

          Scoped : ℕ → Type 0
          Scoped x = (v : Variable) × (slice_get p.variables x ≡ Some v)
              × (v.role ≡ role.Index → In_stmt st (use_of.Seen x) × ((up : ℕ) × (level (is_index x) sc ≡ Some up)))

          far_apart : (x c : ℕ) (v : Variable) → slice_get p.variables c ≡ Some v → v.role ≡ role.Console
              → IsUsed p (In_stmt st) c → c < 2 → spot_of code.layouts (machines js) c ≡ Some q → HeldSpot x q → ⊥
          far_apart x c v ev rv u l g h = no_console_spot c h.owner h.height h.variable h.live h.may
              (console_right c v ev rv u l) l (sym h.spot ∙ console_at c l g)

          by_kinds : (v w : Variable) → slice_get p.variables y ≡ Some v → slice_get p.variables z ≡ Some w
              → (w.role ≡ role.Index → IndexStands q) → (v.role ≡ role.Console)
              ⊎ (HasSpot v.role ⊎ (v.role ≡ role.Index)) → (w.role ≡ role.Console)
              ⊎ (HasSpot w.role ⊎ (w.role ≡ role.Index)) → y ≡ z
          by_kinds v w ev ew ix (inl c) (inl d) =
              ap (λ (x : Spot). x.variable) (sym (console_at y (consoles y v ev c) e)
              ∙ console_at z (consoles z w ew d) f)
          by_kinds v w ev ew ix (inl c) (inr (inl d)) =
              absurd (far_apart z y v ev c a (consoles y v ev c) e (held_spot z w ew b d q f))
          by_kinds v w ev ew ix (inl c) (inr (inr d)) =
              let i = ix d in
              absurd (index_no_console i.height i.is_held i.frame i.rest i.index i.at_value i.from i.home_is
              (console_right y v ev c a (consoles y v ev c))
              (ap (λ (x : Spot). x.frame) (sym i.spot_is ∙ console_at y (consoles y v ev c) e)))
          by_kinds v w ev ew ix (inr (inl c)) (inl d) =
              absurd (far_apart y z w ew d b (consoles z w ew d) f (held_spot y v ev a c q e))
          by_kinds v w ev ew ix (inr (inl c)) (inr (inl d)) = used_once y z v w ev ew c d a b q e f
          by_kinds v w ev ew ix (inr (inl c)) (inr (inr d)) =
              let i = ix d in
              let h = held_spot y v ev a c q e in
              absurd (no_index_spot h.owner h.height h.variable h.live h.may i.height i.is_held i.frame i.rest i.index
              i.at_value i.from i.home_is (sym h.spot ∙ i.spot_is))
          by_kinds v w ev ew ix (inr (inr c)) d = absurd (no_index (v, ev, c))

          by : Scoped y → Scoped z → y ≡ z
          by (v, known_v, _) (w, known_w, scoped_w) = by_kinds v w known_v known_w (λ iv.
              (let (direct, scope) = scoped_w iv in index_stands z w known_w iv oz direct scope.0 scope.1 q f))
              (kind_of v.role) (kind_of w.role)
