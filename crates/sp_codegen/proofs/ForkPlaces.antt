-- Where a variable of the tree stands for a fork is where it stands in the meaning.
use Rattle.std.proofs.Common.{◌≡◌, ◌⊎◌, inl, inr, ⊎_elim, ℕ, zero, suc, ◌+◌, ◌≤◌, ◌==◌, List, [], ◌∷◌, ◌++◌, Option}
use Rattle.std.proofs.Common.{Some, None, Bool, true, false, if◌then◌else◌, length, refl, sym, ap, ◌∙◌, subst, arith}
use Rattle.std.proofs.Common.{eqb-true, eq-eqb}
use Rattle.std.proofs.Common.{zero-add}
use Rattle.std.specs.Prelude.{map, nat_lt, slice_get, option_map}
use Rattle.std.proofs.lemmas.Option.{slice_get-map}
use Rattle.std.proofs.lemmas.List.{append_assoc}
use Rattle.sp_base.proofs.Facts.{get_in_front}
use Rattle.sp_tree.specs.declared.checked.Role.{Role}
use Rattle.sp_tree.specs.declared.checked.Role.TheVariants as role
use Rattle.sp_tree.specs.Cells.{variables_of}
use Rattle.sp_tree.specs.Plain.{Program, Variable, Block}
use Rattle.sp_tree.specs.Interference.{IsMember}
use Rattle.sp_cell.specs.declared.spot.Spot.{Spot}
use Rattle.sp_cell.specs.declared.spot.Address.{Address}
use Rattle.sp_cell.proofs.FrameLaws.{is_other}
use Rattle.sp_meaning.specs.Model.{Name}
use Rattle.sp_meaning.specs.LocalWork.{Cell, Home, OfBlock, OfIndex, Frame, is_block, reference_target}
use Rattle.sp_meaning.specs.LocalWork as own
use Rattle.sp_meaning.specs.Rights.{frame_found, cell_of, spot_of as loc_of, reference_of, location_by, location_at}
use Rattle.sp_meaning.specs.Rights.{location_of}
use Rattle.sp_meaning.proofs.Static.{home_is}
use Rattle.sp_code.specs.declared.code.Formal.{Formal}
use Rattle.sp_code.specs.declared.code.Layout.{Layout}
use Rattle.sp_code.specs.Memory.{last_frames}
use Rattle.sp_code.specs.Memory as m
use Rattle.sp_code.specs.System.{place_of, first_number, spot_of_address, spot_by, spot_at, spot_of_layout, spot_in}
use Rattle.sp_code.specs.System.{or_outward}
use Rattle.sp_code.specs.System.{spot_from, spot_of}
use Rattle.sp_code.specs.Scopes.{as_list, is_local, index_among, frame_of, slot, slot_in, size}
use Rattle.sp_code.specs.TreeCode.{formal_by, formal_of}
use Rattle.sp_code.specs.TreeCode as emitted
use Rattle.sp_codegen.specs.FramePairs.{FramePair, sources, machines, pairs_from}
use Rattle.sp_tree.specs.TreeShape.{IsFormed, is_parameter, is_answer, numbers_with_role}
use Rattle.sp_tree.proofs.Members.{member_front, member_either}
use Rattle.sp_code.proofs.Members.{place_none}
use Rattle.sp_codegen.specs.Relation.{Owns}
use Rattle.sp_codegen.specs.MemoryRelation.{HomesAre, Live, PointsTo, Paired}
use Rattle.sp_codegen.specs.MemoryRelation as st
use Rattle.sp_codegen.proofs.Slots.{HasVar, variables_has, frame_has, slot_is, among_has}
use Rattle.sp_codegen.proofs.FramePairs.{from_from, from_push, from_here, last_machines, paired_from, machines_length}
use Rattle.sp_codegen.proofs.FramePairs.{sources_length, from_short}
use Rattle.sp_codegen.proofs.Numbers.{are_known, frame_is}
use Rattle.sp_codegen.proofs.Returns.{Laid, home_block}
use Rattle.sp_codegen.proofs.FrameStores.{index_at}
use Rattle.sp_codegen.proofs.CallFrames.{are_of, among_of}

-- the frames that begin with the first one outward that fits, no more than n levels
abbrev pub locate : (Home → Bool) → ℕ → List FramePair → List FramePair
locate fits zero js = []
locate fits (suc n) [] = []
locate fits (suc n) (j ∷ js) = if fits j.source.home then j ∷ js else locate fits n (pairs_from j.source.link js)

abbrev pub top : List FramePair → Option Frame
top [] = None
top (j ∷ js) = Some j.source

-- what the meaning finds
pub find_is_located : (fits : Home → Bool) (js : List FramePair) (k n : ℕ) → length (pairs_from k js) ≤ n
    → frame_found fits k (sources js) ≡ top (locate fits n (pairs_from k js))
find_is_located fits [] k zero l = refl
find_is_located fits [] k (suc n) l = refl
find_is_located fits (j ∷ js) k n l =
    ap (λ z. if z == k then (if fits j.source.home then Some j.source else frame_found fits j.source.link
    (sources js)) else
    frame_found fits k (sources js)) (sources_length (j ∷ js))
    ∙ go (length (j ∷ js) == k) n l (λ m h. find_is_located fits js j.source.link m h) (find_is_located fits js k n)
  where
    inner : (b : Bool) (m : ℕ) → frame_found fits j.source.link (sources js)
        ≡ top (locate fits m (pairs_from j.source.link js))
        → (if b then Some j.source else frame_found fits j.source.link (sources js))
        ≡ top (if b then j ∷ js else locate fits m (pairs_from j.source.link js))
    inner true m e = refl
    inner false m e = e

    go : (b : Bool) (n : ℕ) → length (if b then j ∷ js else pairs_from k js) ≤ n
        → ((m : ℕ) → length (pairs_from j.source.link js) ≤ m
        → frame_found fits j.source.link (sources js) ≡ top (locate fits m (pairs_from j.source.link js)))
        → (length (pairs_from k js) ≤ n → frame_found fits k (sources js) ≡ top (locate fits n (pairs_from k js)))
        → (if b then (if fits j.source.home then Some j.source else frame_found fits j.source.link (sources js)) else
        frame_found fits k (sources js)) ≡ top (locate fits n (if b then j ∷ js else pairs_from k js))
    go true zero l deeper same = absurd (omega (arith, l))
    go true (suc n) l deeper same = let s = from_short j.source.link js in
        inner (fits j.source.home) n (deeper n (omega (arith, l, s)))
    go false n l deeper same = same l

pub from_all : (js : List FramePair) → pairs_from (length js) js ≡ js
from_all [] = refl
from_all (j ∷ js) = from_here j js

-- the place among variables is the number in the frame
place_in : (x n : ℕ) (xs : List ℕ) → IsMember x xs → place_of x n xs ≡ Some (index_among x n xs)
place_in x n [] h = absurd h
place_in x n (z ∷ xs) h = go (x == z) refl (place_in x (suc n) xs)
  where
    go : (b : Bool) → x == z ≡ b → (IsMember x xs → place_of x (suc n) xs ≡ Some (index_among x (suc n) xs))
        → (if b then Some n else place_of x (suc n) xs) ≡ Some (if b then n else index_among x (suc n) xs)
    go true e ih = refl
    go false e ih = ih (tail h)
      where
        tail : (x ≡ z) ⊎ IsMember x xs → IsMember x xs
        tail (inl i) = let w : false ≡ true = sym e ∙ eq-eqb x z i in absurd (cc w)
        tail (inr i) = i

-- a variable in a frame
abbrev pub HasSpot : Role → Type 0
HasSpot role.Console = ⊥
HasSpot role.Index = ⊥
HasSpot _ = Unit {0}

module _ (p : Program) (formed : IsFormed p) (ls : List Layout) (laid : Laid p ls) where
  -- a variable of a frame is of its block
  frame_of_block : (f : ℕ) (b : Block) (x : ℕ) → slice_get p.blocks f ≡ Some b → IsMember x (frame_of p f)
      → (v : Variable) × (slice_get p.variables x ≡ Some v) × (v.block ≡ f)
  frame_of_block f b x e h = cases (member_either x (b.formals ++ as_list b.answer) (numbers_with_role is_local vs)
      (subst (λ z. IsMember x z) (frame_is p formed f b e) h))
    where
      vs : List (ℕ × Variable)
      vs = variables_of f 0 p.variables

      of : (fits : Role → Bool) → IsMember x (numbers_with_role fits vs) → (v : Variable)
          × (slice_get p.variables x ≡ Some v)
          × (v.block ≡ f)
      of fits i = among_of p formed fits f x vs (are_known p formed f) (are_of f 0 p.variables) i

      cases : IsMember x (b.formals ++ as_list b.answer) ⊎ IsMember x (numbers_with_role is_local vs) → (v : Variable)
          × (slice_get p.variables x ≡ Some v) × (v.block ≡ f)
      cases (inr i) = of is_local i
      cases (inl i) = ⊎_elim (λ (a : IsMember x b.formals). of is_parameter
          (subst (λ z. IsMember x z) (formed.formals f b e) a))
          (λ (a : IsMember x (as_list b.answer)). of is_answer (subst (λ z. IsMember x z) (formed.answers f b e) a))
          (member_either x b.formals (as_list b.answer) i)

  -- and each variable with a spot is in its block's frame
  in_frame_of : (x : ℕ) (v : Variable) → slice_get p.variables x ≡ Some v → HasSpot v.role
      → IsMember x (frame_of p v.block)
  in_frame_of x v e h = by_role v.role refl h
    where
      vs : List (ℕ × Variable)
      vs = variables_of v.block 0 p.variables

      here : HasVar x v vs
      here = subst (λ z. HasVar z v vs) {x = 0 + x} {y = x} (omega arith)
          (variables_has v.block 0 p.variables x v e refl)

      b : (b : Block) × (slice_get p.blocks v.block ≡ Some b)
      b = formed.homes x v e

      by_role : (r : Role) → v.role ≡ r → HasSpot r → IsMember x (frame_of p v.block)
      by_role role.Console d o = absurd o
      by_role role.Local d o = frame_has p formed x v e (subst Owns (sym d) tt)
      by_role role.Value d o = frame_has p formed x v e (subst Owns (sym d) tt)
      by_role role.Reference d o = subst (λ z. IsMember x z) (sym (frame_is p formed v.block b.0 b.1))
          (member_front x (b.0.formals ++ as_list b.0.answer) (numbers_with_role is_local vs)
          (member_front x b.0.formals (as_list b.0.answer)
          (subst (λ z. IsMember x z) (sym (formed.formals v.block b.0 b.1))
          (among_has is_parameter x v vs here (ap is_parameter d)))))
      by_role role.Index d o = absurd o
      by_role role.Answer d o = frame_has p formed x v e (subst Owns (sym d) tt)

  abbrev FB : ℕ → Formal
  FB y = formal_by p (slice_get p.variables y)

  abbrev start : ℕ → ℕ
  start c = if c == 0 then 2 else 0

  -- in the frame of its block
  spot_frame : (f : m.Frame) (c : ℕ) (b : Block) (x : ℕ) → slice_get p.blocks c ≡ Some b → IsMember x (frame_of p c)
      → spot_in ls f (m.OfBlock c) x ≡ spot_by f (slot_in p c x) (slice_get (map FB b.formals) (slot_in p c x))
  spot_frame f c b x eb h =
      let l = laid c b eb in
      ap (λ y. spot_of_layout f x y) l.1 ∙ ap (λ (y : Layout). spot_at f y (place_of x (first_number y) y.variables))
      l.2
      ∙ ap (λ z. spot_at f (emitted.layout_of p c l.0.entry b) z) (place_in x (start c) (frame_of p c) h)

  pub spot_no_frame : (f : m.Frame) (c : ℕ) (b : Block) (x : ℕ) → slice_get p.blocks c ≡ Some b
      → (IsMember x (frame_of p c) → ⊥) → spot_in ls f (m.OfBlock c) x ≡ None
  spot_no_frame f c b x eb h =
      let l = laid c b eb in
      ap (λ y. spot_of_layout f x y) l.1 ∙ ap (λ (y : Layout). spot_at f y (place_of x (first_number y) y.variables))
      l.2
      ∙ ap (λ z. spot_at f (emitted.layout_of p c l.0.entry b) z) (place_none x (start c) (frame_of p c) h)

  index_front : (x n : ℕ) (xs ys : List ℕ) → IsMember x xs → index_among x n (xs ++ ys) ≡ index_among x n xs
  index_front x n [] ys h = absurd h
  index_front x n (z ∷ xs) ys h = go (x == z) refl (index_front x (suc n) xs ys)
    where
      go : (b : Bool) → x == z ≡ b → (IsMember x xs → index_among x (suc n) (xs ++ ys) ≡ index_among x (suc n) xs)
          → (if b then n else index_among x (suc n) (xs ++ ys)) ≡ (if b then n else index_among x (suc n) xs)
      go true e ih = refl
      go false e ih = ih (tail h)
        where
          tail : (x ≡ z) ⊎ IsMember x xs → IsMember x xs
          tail (inl i) = let w : false ≡ true = sym e ∙ eq-eqb x z i in absurd (cc w)
          tail (inr i) = i

  -- a variable with cells of its own: its spot is in its frame
  own_formal : (f : m.Frame) (c : ℕ) (b : Block) (x : ℕ) (v : Variable) → slice_get p.blocks c ≡ Some b
      → slice_get p.variables x ≡ Some v → Owns v.role → v.block ≡ c
      → spot_by f (slot_in p c x) (slice_get (map FB b.formals) (slot_in p c x))
      ≡ Some (record { frame = f.number; variable = slot_in p c x })
  own_formal f c b x v eb ev ov bv = by_block (c == 0) refl
    where
      k : ℕ
      k = slot_in p c x

      at : (i : ℕ) × (index_among x (start c) (frame_of p c) ≡ start c + i) × (slice_get (frame_of p c) i ≡ Some x)
      at = index_at x (start c) (frame_of p c)
          (subst (λ z. IsMember x (frame_of p z)) bv (frame_has p formed x v ev ov))

      by_role : (n : ℕ) (r : Role) → Owns r → spot_by f k (Some (formal_of r n))
          ≡ Some (record { frame = f.number; variable = k })
      by_role n role.Console o = absurd o
      by_role n role.Local o = refl
      by_role n role.Value o = refl
      by_role n role.Reference o = absurd o
      by_role n role.Index o = absurd o
      by_role n role.Answer o = refl

      by_formal : (o : Option ℕ) → ((y : ℕ) → o ≡ Some y → y ≡ x)
          → spot_by f k (option_map FB o) ≡ Some (record { frame = f.number; variable = k })
      by_formal None h = refl
      by_formal (Some y) h = ap (λ z. spot_by f k (Some (FB z))) (h y refl)
          ∙ ap (λ z. spot_by f k (Some (formal_by p z))) ev ∙ by_role (size p v.kind) v.role ov

      same : start c ≡ 0 → (y : ℕ) → slice_get b.formals k ≡ Some y → y ≡ x
      same s y e =
          let ki : k ≡ at.0 = let a = at.1 in omega (arith, a, s) in
          let whole : slice_get (frame_of p c) at.0 ≡ Some y =
          ap (λ z. slice_get z at.0) (frame_is p formed c b eb
          ∙ append_assoc b.formals (as_list b.answer) (numbers_with_role is_local (variables_of c 0 p.variables)))
          ∙ get_in_front b.formals
          (as_list b.answer ++ numbers_with_role is_local (variables_of c 0 p.variables)) at.0 y
          (ap (λ z. slice_get b.formals z) (sym ki) ∙ e) in
          let z : Some y ≡ Some x = sym whole ∙ at.2 in cc z

      by_block : (t : Bool) → c == 0 ≡ t → spot_by f k (slice_get (map FB b.formals) k)
          ≡ Some (record { frame = f.number; variable = k })
      by_block true t = ap (λ (z : List ℕ). spot_by f k (slice_get (map FB z) k))
          (formed.program b (ap (λ z. slice_get p.blocks z) (sym (eqb-true c 0 t)) ∙ eb)).1
      by_block false t = ap (λ z. spot_by f k z) (slice_get-map FB b.formals k)
          ∙ by_formal (slice_get b.formals k) (same (ap (λ z. if z then 2 else 0) t))

  -- a variable parameter: what it refers to
  reference_formal : (f : m.Frame) (c : ℕ) (b : Block) (x : ℕ) (v : Variable) → slice_get p.blocks c ≡ Some b
      → slice_get p.variables x ≡ Some v → v.role ≡ role.Reference → v.block ≡ c
      → spot_by f (slot_in p c x) (slice_get (map FB b.formals) (slot_in p c x))
      ≡ spot_of_address (m.reference_target (slot_in p c x) f.references)
  reference_formal f c b x v eb ev rv bv = by_block (c == 0) refl
    where
      k : ℕ
      k = slot_in p c x

      vs : List (ℕ × Variable)
      vs = variables_of c 0 p.variables

      here : HasVar x v vs
      here = subst (λ z. HasVar z v vs) {x = 0 + x} {y = x} (omega arith) (variables_has c 0 p.variables x v ev bv)

      member : IsMember x b.formals
      member = subst (λ z. IsMember x z) (sym (formed.formals c b eb))
          (among_has is_parameter x v vs here (ap is_parameter rv))

      at : (i : ℕ) × (index_among x 0 b.formals ≡ 0 + i) × (slice_get b.formals i ≡ Some x)
      at = index_at x 0 b.formals member

      by_block : (t : Bool) → c == 0 ≡ t → spot_by f k (slice_get (map FB b.formals) k)
          ≡ spot_of_address (m.reference_target k f.references)
      by_block true t = absurd (subst (λ z. IsMember x z)
          (formed.program b (ap (λ z. slice_get p.blocks z) (sym (eqb-true c 0 t)) ∙ eb)).1 member)
      by_block false t =
          let ks : k ≡ at.0 = ap (λ z. index_among x (if z then 2 else 0) (frame_of p c)) t
          ∙ ap (λ z. index_among x 0 z) (frame_is p formed c b eb
          ∙ append_assoc b.formals (as_list b.answer) (numbers_with_role is_local vs))
          ∙ index_front x 0 b.formals (as_list b.answer ++ numbers_with_role is_local vs) member ∙ at.1
          ∙ zero-add at.0 in
          ap (λ z. spot_by f k z) (ap (λ z. slice_get (map FB b.formals) z) ks ∙ slice_get-map FB b.formals at.0
          ∙ ap (λ z. option_map FB z) at.2 ∙ ap (λ z. Some (formal_by p z)) ev
          ∙ ap (λ z. Some (formal_of z (size p v.kind))) rv)

  module _ (Called : Name → ℕ → Type 0) (x : ℕ) (v : Variable) (ev : slice_get p.variables x ≡ Some v)
      (hs : HasSpot v.role) where
    abbrev pub fits : Home → Bool
    fits = is_block v.block

    -- what is known of the spot, by the frame
    abbrev pub ByOwn : FramePair → List FramePair → Option Spot → Type 0
    ByOwn j rest s = Owns v.role × (s ≡ Some (record { frame = j.machine.number; variable = slot p x }))

    abbrev pub ByReference : FramePair → List FramePair → Option Spot → Type 0
    ByReference j rest s = (v.role ≡ role.Reference)
        × ((r : own.Address) × (reference_target x j.source.references ≡ Some r)
        × ((a : Address) × (s ≡ Some a.spot) × PointsTo p rest r a))

    abbrev pub SpotIs : FramePair → List FramePair → Option Spot → Type 0
    SpotIs j rest s = ByOwn j rest s ⊎ ByReference j rest s

    same_slot : slot p x ≡ slot_in p v.block x
    same_slot = slot_is p formed x v ev

    -- in its block's frame
    here_is : (j : FramePair) (js : List FramePair) → Paired p Called (j ∷ js) → j.source.home ≡ OfBlock v.block
        → (o : Option Spot) → SpotIs j js (or_outward (spot_in ls j.machine j.machine.home x) o)
    here_is j js (pair, _) home o = by_role v.role refl hs
      where
        ho : HomesAre p (OfBlock v.block) j.machine.home
        ho = subst (λ z. HomesAre p z j.machine.home) home pair.homes

        mh : j.machine.home ≡ m.OfBlock v.block
        mh = home_block p v.block j.machine.home ho

        b : (b : Block) × (slice_get p.blocks v.block ≡ Some b)
        b = formed.homes x v ev

        found : spot_in ls j.machine j.machine.home x
            ≡ spot_by j.machine (slot_in p v.block x) (slice_get (map FB b.0.formals) (slot_in p v.block x))
        found = ap (λ z. spot_in ls j.machine z x) mh ∙ spot_frame j.machine v.block b.0 x b.1 (in_frame_of x v ev hs)

        by_own : Owns v.role → SpotIs j js (or_outward (spot_in ls j.machine j.machine.home x) o)
        by_own ow = inl (
          ow,
          ap (λ z. or_outward z o)
              (found ∙ own_formal j.machine v.block b.0 x v b.1 ev ow refl
              ∙ ap (λ z. Some (record { frame = j.machine.number; variable = z })) (sym same_slot)),
        )

        by_role : (r : Role) → v.role ≡ r → HasSpot r
            → SpotIs j js (or_outward (spot_in ls j.machine j.machine.home x) o)
        by_role role.Console e h = absurd h
        by_role role.Local e h = by_own (subst Owns (sym e) tt)
        by_role role.Value e h = by_own (subst Owns (sym e) tt)
        by_role role.Reference e h =
            let (source, source_is, _, to) = pair.references x v ev home e in
            let (target, target_is, points) = to in
            inr (
              e,
              (
                source,
                source_is,
                (
                  target,
                  ap (λ z. or_outward z o)
                      (found ∙ reference_formal j.machine v.block b.0 x v b.1 ev e refl
                      ∙ ap (λ z. spot_of_address (m.reference_target z j.machine.references)) (sym same_slot)
                      ∙ ap spot_of_address target_is),
                  points,
                ),
              ),
            )
        by_role role.Index e h = absurd h
        by_role role.Answer e h = by_own (subst Owns (sym e) tt)

    no_index_role : role.Index ≡ v.role → ⊥
    no_index_role e = subst HasSpot (sym e) hs

    -- not in another frame
    not_here : (a : own.Home) (c : m.Home) (f : m.Frame) → HomesAre p a c → fits a ≡ false → spot_in ls f c x ≡ None
    not_here (OfBlock a) (m.OfBlock c) f (same, (block, known)) nf =
        spot_no_frame f c block x (ap (λ z. slice_get p.blocks z) (sym same) ∙ known) (λ i.
        let w = frame_of_block c block x (ap (λ z. slice_get p.blocks z) (sym same) ∙ known) i in
        let z : Some v ≡ Some w.0 = sym ev ∙ w.1 in
        let vw : v ≡ w.0 = cc z in
        let bc : v.block ≡ a = ap (λ (y : Variable). y.block) vw ∙ w.2 ∙ sym same in
        let bad : false ≡ true = sym nf ∙ eq-eqb v.block a bc in
        absurd (cc bad))
    not_here (OfBlock a) (m.OfIndex y) f ho nf = absurd ho
    not_here (OfIndex y u) (m.OfBlock c) f ho nf = absurd ho
    not_here (OfIndex y u) (m.OfIndex z) f (same, (index, known, role_is)) nf =
        ap (λ b. if b then Some (record { frame = f.number; variable = 0 }) else None) (is_other x z (λ e.
        let w : Some index ≡ Some v = sym known ∙ ap (λ i. slice_get p.variables i) (same ∙ sym e) ∙ ev in
        let iv : index ≡ v = cc w in
        absurd (no_index_role (sym role_is ∙ ap (λ (y : Variable). y.role) iv))))

    spot_along : (n : ℕ) (js : List FramePair) → Paired p Called js → length js ≤ n
        → (j : FramePair) (rest : List FramePair)
        → locate fits n js ≡ j ∷ rest → SpotIs j rest (spot_from ls n (machines js) x)
    spot_along zero js pa l j rest e = absurd (cc e)
    spot_along (suc n) [] pa l j rest e = absurd (cc e)
    spot_along (suc n) (k ∷ js) (pair, others) l j rest e =
        go (fits k.source.home) refl (λ d. spot_along n (pairs_from k.source.link js)
        (paired_from p Called k.source.link js others) (let s = from_short k.source.link js in omega (arith, l, s)) j
        rest
        d) e
      where
        outer : Option Spot
        outer = spot_from ls n (last_frames k.machine.link (machines js)) x

        outer_is : outer ≡ spot_from ls n (machines (pairs_from k.source.link js)) x
        outer_is = ap (λ z. spot_from ls n (last_frames z (machines js)) x) (sym pair.link_is)
            ∙ ap (λ z. spot_from ls n z x) (last_machines k.source.link js pair.link_low)

        go : (b : Bool) → fits k.source.home ≡ b
            → (locate fits n (pairs_from k.source.link js) ≡ j ∷ rest
            → SpotIs j rest (spot_from ls n (machines (pairs_from k.source.link js)) x))
            → (if b then k ∷ js else locate fits n (pairs_from k.source.link js)) ≡ j ∷ rest
            → SpotIs j rest (or_outward (spot_in ls k.machine k.machine.home x) outer)
        go true t ih e =
            let kj : k ≡ j = ap (λ z. a_joint k z) e in
            let jr : js ≡ rest = ap (λ z. rest_of z) e in
            subst (λ z. SpotIs z rest (or_outward (spot_in ls k.machine k.machine.home x) outer)) kj
            (subst (λ z. SpotIs k z (or_outward (spot_in ls k.machine k.machine.home x) outer)) jr
            (here_is k js (pair, others) (home_is v.block k.source.home t) outer))
          where
            a_joint : FramePair → List FramePair → FramePair
            a_joint d [] = d
            a_joint d (i ∷ is) = i

            rest_of : List FramePair → List FramePair
            rest_of [] = []
            rest_of (i ∷ is) = is
        go false t ih e = subst (λ z. SpotIs j rest z)
            (sym (ap (λ z. or_outward z outer) (not_here k.source.home k.machine.home k.machine pair.homes t)
            ∙ outer_is)) (ih e)

    pub located_from : (n : ℕ) (js : List FramePair) (j : FramePair) (rest : List FramePair)
        → locate fits n js ≡ j ∷ rest
        → (pairs_from (suc (length rest)) js ≡ j ∷ rest) × (fits j.source.home ≡ true)
    located_from zero js j rest e = absurd (cc e)
    located_from (suc n) [] j rest e = absurd (cc e)
    located_from (suc n) (k ∷ js) j rest e =
        go (fits k.source.home) refl (λ d. located_from n (pairs_from k.source.link js) j rest d) e
      where
        go : (b : Bool) → fits k.source.home ≡ b
            → (locate fits n (pairs_from k.source.link js) ≡ j ∷ rest
            → (pairs_from (suc (length rest)) (pairs_from k.source.link js) ≡ j ∷ rest) × (fits j.source.home ≡ true))
            → (if b then k ∷ js else locate fits n (pairs_from k.source.link js)) ≡ j ∷ rest
            → (pairs_from (suc (length rest)) (k ∷ js) ≡ j ∷ rest) × (fits j.source.home ≡ true)
        go true t ih e = (ap (λ z. pairs_from (suc (length rest)) z) e ∙ from_here j rest, subst (λ z. FirstFits z) e t)
          where
            FirstFits : List FramePair → Type 0
            FirstFits [] = Unit {0}
            FirstFits (i ∷ is) = fits i.source.home ≡ true
        go false t ih e = let r = ih e in (
          from_push (suc (length rest)) k js j rest
              (from_from (suc (length rest)) k.source.link js j rest r.0),
          r.1,
        )

    -- the spot of a variable is that of the location that it stands for
    pub record SpotFound (js : List FramePair) (q : Name) (h y : ℕ) : Type 0 where
      pub live : Live p js q h y
      pub spot : spot_of ls (machines js) x ≡ Some (st.spot_at live.joint.machine.number (slot p y))

    pub spot_agrees : (js : List FramePair) → Paired p Called js → nat_lt x 2 ≡ false → (q : Name) (h y : ℕ)
        → location_of p (sources js) x ≡ Some (Cell q h y) → SpotFound js q h y
    spot_agrees js pa far q h y e = by_located (locate fits (length js) js) refl
      where
        found_is : frame_found fits (length (sources js)) (sources js) ≡ top (locate fits (length js) js)
        found_is = ap (λ z. frame_found fits z (sources js)) (sources_length js)
            ∙ find_is_located fits js (length js) (length js)
            (subst (λ z. length z ≤ length js) (sym (from_all js)) (omega arith))
            ∙ ap (λ z. top (locate fits (length js) z)) (from_all js)

        spot_is : spot_of ls (machines js) x ≡ spot_from ls (length js) (machines js) x
        spot_is = ap (λ b. if b then Some (record { frame = 0; variable = x }) else
            spot_from ls (length (machines js)) (machines js) x) far
            ∙ ap (λ z. spot_from ls z (machines js) x) (machines_length js)

        stood : location_by (sources js) x v v.role ≡ Some (Cell q h y)
        stood = sym (ap (location_at (sources js) x) ev) ∙ e

        owned_by : (r : Role) → Owns r → location_by (sources js) x v r
            ≡ cell_of x (frame_found fits (length (sources js)) (sources js))
        owned_by role.Console o = absurd o
        owned_by role.Local o = refl
        owned_by role.Value o = refl
        owned_by role.Reference o = absurd o
        owned_by role.Index o = absurd o
        owned_by role.Answer o = refl

        nothing_there : (r : Role) → HasSpot r → top (locate fits (length js) js) ≡ None
            → location_by (sources js) x v r ≡ Some (Cell q h y) → ⊥
        nothing_there role.Console hh n e = hh
        nothing_there role.Local hh n e = let z : None ≡ Some (Cell q h y) = sym (ap (cell_of x) (found_is ∙ n)) ∙ e in
            cc z
        nothing_there role.Value hh n e = let z : None ≡ Some (Cell q h y) = sym (ap (cell_of x) (found_is ∙ n)) ∙ e in
            cc z
        nothing_there role.Reference hh n e = let z : None ≡ Some (Cell q h y) =
            sym (ap (reference_of x) (found_is ∙ n)) ∙ e in cc z
        nothing_there role.Index hh n e = hh
        nothing_there role.Answer hh n e = let z : None ≡ Some (Cell q h y) = sym (ap (cell_of x) (found_is ∙ n)) ∙ e in
            cc z

        at_frame : (j : FramePair) (rest : List FramePair) → locate fits (length js) js ≡ j ∷ rest
            → SpotIs j rest (spot_from ls (length js) (machines js) x) → SpotFound js q h y
        at_frame j rest d (inl o) =
            let lf = located_from (length js) js j rest d in
            let pa_here = subst (Paired p Called) lf.0
            (paired_from p Called (suc (length rest)) js pa) in
            let cell : Some (Cell j.source.owner j.source.number x) ≡ Some (Cell q h y) =
            sym (owned_by v.role o.0 ∙ ap (cell_of x) (found_is ∙ ap top d)) ∙ stood in
            let q_is : j.source.owner ≡ q = cc cell in
            let h_is : j.source.number ≡ h = cc cell in
            let y_is : x ≡ y = cc cell in
            record {
              live = record {
                info = v;
                known = ap (λ z. slice_get p.variables z) (sym y_is) ∙ ev;
                owns = o.0;
                joint = j;
                rest = rest;
                frame_at = ap (λ z. pairs_from (suc z) js) (sym h_is ∙ pa_here.0.number_is) ∙ lf.0;
                owner_is = q_is;
                home = home_is v.block j.source.home lf.1;
              };
              spot = spot_is ∙ o.1 ∙ ap (λ z. Some (st.spot_at j.machine.number (slot p z))) y_is;
            }
        at_frame j rest d (inr (role_is, (source, source_is, (_, to_is, k)))) =
            let lf = located_from (length js) js j rest d in
            let target : Some source.spot ≡ Some (Cell q h y) =
            sym (ap (location_by (sources js) x v) role_is ∙ ap (reference_of x) (found_is ∙ ap top d) ∙ ap loc_of
            source_is)
            ∙ stood in
            let l_is : source.spot ≡ Cell q h y = cc target in
            let same : Cell k.owner k.frame k.variable ≡ Cell q h y = sym k.cell_is ∙ l_is in
            let q_is : k.owner ≡ q = cc same in
            let h_is : k.frame ≡ h = cc same in
            let y_is : k.variable ≡ y = cc same in
            let up : pairs_from (suc k.frame) js ≡ k.live.joint ∷ k.live.rest =
            from_from (suc k.frame) (suc (length rest)) js k.live.joint k.live.rest
            (ap (λ z. pairs_from (suc k.frame) z) lf.0
            ∙ from_push (suc k.frame) j rest k.live.joint k.live.rest k.live.frame_at) in
            record {
              live = record {
                info = k.live.info;
                known = ap (λ z. slice_get p.variables z) (sym y_is) ∙ k.live.known;
                owns = k.live.owns;
                joint = k.live.joint;
                rest = k.live.rest;
                frame_at = ap (λ z. pairs_from (suc z) js) (sym h_is) ∙ up;
                owner_is = k.live.owner_is ∙ q_is;
                home = k.live.home;
              };
              spot = spot_is ∙ to_is ∙ ap Some k.spot_is
                  ∙ ap (λ z. Some (st.spot_at k.live.joint.machine.number (slot p z))) y_is;
            }

        by_located : (ks : List FramePair) → locate fits (length js) js ≡ ks → SpotFound js q h y
        by_located [] d = absurd (nothing_there v.role hs (ap top d) stood)
        by_located (j ∷ rest) d = at_frame j rest d (spot_along (length js) js pa (omega arith) j rest d)

    -- ---- the other way: what has a spot stands for a location

    nowhere : (n : ℕ) (js : List FramePair) → Paired p Called js → locate fits n js ≡ []
        → spot_from ls n (machines js) x ≡ None
    nowhere zero js pa d = refl
    nowhere (suc n) [] pa d = refl
    nowhere (suc n) (k ∷ js) (pair, others) d = go (fits k.source.home) refl
        (λ e. nowhere n (pairs_from k.source.link js) (paired_from p Called k.source.link js others) e) d
      where
        outer_is : spot_from ls n (last_frames k.machine.link (machines js)) x
            ≡ spot_from ls n (machines (pairs_from k.source.link js)) x
        outer_is = ap (λ z. spot_from ls n (last_frames z (machines js)) x) (sym pair.link_is)
            ∙ ap (λ z. spot_from ls n z x) (last_machines k.source.link js pair.link_low)

        go : (b : Bool) → fits k.source.home ≡ b
            → (locate fits n (pairs_from k.source.link js) ≡ []
            → spot_from ls n (machines (pairs_from k.source.link js)) x ≡ None)
            → (if b then k ∷ js else locate fits n (pairs_from k.source.link js)) ≡ []
            → or_outward (spot_in ls k.machine k.machine.home x)
            (spot_from ls n (last_frames k.machine.link (machines js)) x) ≡ None
        go true t ih e = absurd (cc e)
        go false t ih e = ap (λ z. or_outward z (spot_from ls n (last_frames k.machine.link (machines js)) x))
            (not_here k.source.home k.machine.home k.machine pair.homes t) ∙ outer_is ∙ ih e

    pub stands_for : (js : List FramePair) → Paired p Called js → nat_lt x 2 ≡ false → (q : Spot)
        → spot_of ls (machines js) x ≡ Some q → (n : Name) × (h : ℕ) × (y : ℕ)
        × (location_of p (sources js) x ≡ Some (Cell n h y))
    stands_for js pa far q e = by_located (locate fits (length js) js) refl
      where
        found_is : frame_found fits (length (sources js)) (sources js) ≡ top (locate fits (length js) js)
        found_is = ap (λ z. frame_found fits z (sources js)) (sources_length js)
            ∙ find_is_located fits js (length js) (length js)
            (subst (λ z. length z ≤ length js) (sym (from_all js)) (omega arith))
            ∙ ap (λ z. top (locate fits (length js) z)) (from_all js)

        spot_is : spot_of ls (machines js) x ≡ spot_from ls (length js) (machines js) x
        spot_is = ap (λ b. if b then Some (record { frame = 0; variable = x }) else
            spot_from ls (length (machines js)) (machines js) x) far
            ∙ ap (λ z. spot_from ls z (machines js) x) (machines_length js)

        owned_by : (r : Role) → Owns r → location_by (sources js) x v r
            ≡ cell_of x (frame_found fits (length (sources js)) (sources js))
        owned_by role.Console o = absurd o
        owned_by role.Local o = refl
        owned_by role.Value o = refl
        owned_by role.Reference o = absurd o
        owned_by role.Index o = absurd o
        owned_by role.Answer o = refl

        at_frame : (j : FramePair) (rest : List FramePair) → locate fits (length js) js ≡ j ∷ rest
            → SpotIs j rest (spot_from ls (length js) (machines js) x) → (n : Name) × (h : ℕ) × (y : ℕ)
            × (location_of p (sources js) x ≡ Some (Cell n h y))
        at_frame j rest d (inl o) = (
          j.source.owner,
          j.source.number,
          x,
          ap (location_at (sources js) x) ev
              ∙ owned_by v.role o.0 ∙ ap (cell_of x) (found_is ∙ ap top d),
        )
        at_frame j rest d (inr (role_is, (_, source_is, (_, _, k)))) = (
          k.owner,
          k.frame,
          k.variable,
          ap (location_at (sources js) x) ev ∙ ap (location_by (sources js) x v) role_is
              ∙ ap (reference_of x) (found_is ∙ ap top d) ∙ ap loc_of source_is ∙ ap Some k.cell_is,
        )

        by_located : (ks : List FramePair) → locate fits (length js) js ≡ ks → (n : Name) × (h : ℕ) × (y : ℕ)
            × (location_of p (sources js) x ≡ Some (Cell n h y))
        by_located [] d = let z : None ≡ Some q = sym (spot_is ∙ nowhere (length js) js pa d) ∙ e in absurd (cc z)
        by_located (j ∷ rest) d = at_frame j rest d (spot_along (length js) js pa (omega arith) j rest d)
