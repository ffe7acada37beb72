-- Where no rule of names is broken, each name in each block is of a visible declaration.
use Rattle.std.proofs.Common.{◌≡◌, ◌⊎◌, inl, refl, ap, sym, ◌∙◌, subst, ℕ, suc, ◌+◌, ◌≤◌, List, [], ◌∷◌, ◌++◌, Option}
use Rattle.std.proofs.Common.{Some, None, Bool, true, false, if◌then◌else◌, length, slice_get, arith, eq-eqb}
use Rattle.std.specs.Prelude.{nat_le, map}
use Rattle.std.specs.Str.{bytes_eq}
use Rattle.sp_tree.specs.declared.checked.Role.{Role}
use Rattle.sp_tree.specs.declared.checked.Role.TheVariants as role
use Rattle.sp_tree.specs.declared.meaning.Meaning.{Meaning}
use Rattle.sp_tree.specs.declared.meaning.Meaning.TheVariants as meaning
use Rattle.sp_tree.specs.declared.syntax.Name.{Name}
use Rattle.sp_tree.specs.NameFirst.{both_lists, all_at}
use Rattle.sp_tree.specs.Scopes as names
use Rattle.sp_tree.specs.Scopes.{Env, find}
use Rattle.sp_tree.specs.NameWalk as w
use Rattle.sp_tree.specs.NameWalk.{role_of}
use Rattle.sp_tree.specs.PlainNamed as n
use Rattle.sp_tree.specs.Plain as plain
use Rattle.sp_code.specs.Scopes.{Scope, OfBlock, is_block, level, one_more, scopes_of}
use Rattle.sp_front.specs.Visible.{IsScope, AreFlags, IsAround, IsValid, AreValid, IsVisible, IsChain}
use Rattle.sp_front.proofs.NoBreachInParts.{none_in_parts}
use Rattle.std.proofs.lemmas.List.{length-append}
use Rattle.std.proofs.lemmas.Option.{same_Some}
use Rattle.sp_tree.specs.declared.checked.Variable as checked
use Rattle.sp_tree.specs.declared.meaning.Sort.{Sort}
use Rattle.sp_tree.specs.declared.meaning.Sort.TheVariants as sort
use Rattle.sp_tree.specs.NameRules.{Declares}
use Rattle.sp_tree.specs.Scopes.{Local, inner_env, local_of_inner, with_declaration, declaration_limit, variable}
use Rattle.sp_tree.specs.Scopes.{next_variable}
use Rattle.sp_tree.specs.NameWalk.{blocks_around}
use Rattle.sp_tree.specs.NamedTree.{named_statement, indices}
use Rattle.sp_tree.specs.PlainSyntax.{Statement}
use Rattle.sp_front.specs.ScopeFacts.{IsInForall, InStatement}
use Rattle.sp_front.proofs.DeclarationNumbers.{room_at, counted, AddsVariables}
use Rattle.sp_tree.specs.declared.meaning.Counts.{Counts}
use Rattle.sp_tree.specs.declared.syntax.SynFormal.{SynFormal}
use Rattle.sp_tree.specs.declared.syntax.SynKind.{SynKind}
use Rattle.sp_tree.specs.declared.syntax.SynKind.TheVariants as kinds
use Rattle.sp_tree.specs.NameRules.{Uses, AsKind}
use Rattle.sp_tree.specs.Scopes.{put, next_constant, next_kind, next_block}
use Rattle.sp_tree.specs.NameWalk.{names_local, formals_local, title_local, answer_local, heading_local}
use Rattle.sp_tree.specs.NameWalk.{constants_local, kind_local, type_local, parts_local, part_local, block_meaning}
use Rattle.sp_tree.specs.NameWalk.{references}
use Rattle.sp_tree.specs.NamedTree.{kind_number, variables_named, formals_named, numbers, answer_named, answer_of}
use Rattle.sp_tree.specs.NamedTree.{enumeration_constants, constants_named, parts_named, part_named}
use Rattle.sp_tree.specs.PlainSyntax.{Part, Const, Kind, Var, Proc, Parts, NoPart, Declare}
use Rattle.sp_types.specs.Tables.{answer_variable}
use Rattle.sp_front.specs.PartsInTables.{HoldsBlocks, AreScoped, AreBelow}
use Rattle.sp_front.proofs.DeclarationNumbers.{Moved, declared_counts, one_variable, names_adds, formals_adds}
use Rattle.sp_front.proofs.DeclarationNumbers.{answer_adds}
use Rattle.sp_front.proofs.DeclarationNumbers.{parts_move, part_moves}
use Rattle.sp_front.proofs.NameStatements.{HoldsVariables, holds_parts, more_all, more_valid, all_behind, IsPlace}
use Rattle.sp_front.proofs.NameStatements.{statement_in}

below_join : (k : ℕ) (xs ys : List n.Block) → AreBelow k xs → AreBelow (k + length xs) ys → AreBelow k (xs ++ ys)
below_join k [] ys x y = subst (λ z. AreBelow z ys) (let z : k + 0 ≡ k = omega arith in z) y
below_join k (b ∷ xs) ys x y = (
  x.0,
  below_join (suc k) xs ys x.1
      (subst (λ z. AreBelow z ys) (let z : k + suc (length xs) ≡ suc k + length xs = omega arith in z) y),
)

-- ---- parents come before

-- declarations leave the number of the block as it is
declared_block : (l : Local) (name : List ℕ) (s : Sort) (y : Meaning) → (with_declaration l name s y).block ≡ l.block
declared_block l name s y = go (nat_le declaration_limit (names.count s l.counts))
  where
    go : (b : Bool) → (if b then l else record {
      here = put l.here name y;
      block = l.block;
      answer = l.answer;
      counts = names.with_one_more s l.counts;
    }).block ≡ l.block
    go true = refl
    go false = refl

names_block : (r : Role) (l : Local) (xs : List Name) → (names_local r l xs).block ≡ l.block
names_block r l [] = refl
names_block r l (x ∷ xs) = names_block r (with_declaration l x.text sort.Variable (variable l r)) xs
    ∙ declared_block l x.text sort.Variable (variable l r)

formals_block : (l : Local) (fs : List SynFormal) → (formals_local l fs).block ≡ l.block
formals_block l [] = refl
formals_block l (f ∷ fs) = formals_block (names_local (role_of f.by_reference) l f.names) fs
    ∙ names_block (role_of f.by_reference) l f.names

answer_block : (l : Local) (answer : Option Name) → (answer_local l answer).block ≡ l.block
answer_block l None = refl
answer_block l (Some t) = refl

constants_block : (l : Local) (xs : List Name) → (constants_local l xs).block ≡ l.block
constants_block l [] = refl
constants_block l (x ∷ xs) = constants_block
    (with_declaration l x.text sort.Constant (meaning.Constant (next_constant l.counts))) xs
    ∙ declared_block l x.text sort.Constant (meaning.Constant (next_constant l.counts))

kind_block : (l : Local) (k : SynKind) → (kind_local l k).block ≡ l.block
kind_block l (kinds.Enumeration xs) = constants_block l xs
kind_block _ _ = refl

pub part_block : (l : Local) (q : Part) → (part_local l q).block ≡ l.block
part_block l (Const x c) = declared_block l x.text sort.Constant (meaning.Constant (next_constant l.counts))
part_block l (Kind x k) = kind_block (type_local l x) k
    ∙ declared_block l x.text sort.Kind (meaning.Kind (next_kind l.counts))
part_block l (Var xs t) = names_block role.Local l xs
part_block l (Proc x fs answer parts body) = declared_block l x.text sort.Block (block_meaning l fs answer)

-- what stands in a procedure: the calm of each of its pieces, and the numbers there
module _ (around : List names.Scope) (l : Local) (x : Name) (fs : List SynFormal) (answer : Option Name) (parts : Parts)
    (body : Statement) (calm : w.part_sites [] both_lists all_at around l (Proc x fs answer parts body) ≡ []) where
  abbrev pub env_ : Env
  env_ = inner_env around l

  abbrev pub title_ : Local
  title_ = title_local l x fs answer

  abbrev pub in_ : List names.Scope
  in_ = blocks_around around title_

  abbrev pub head_ : Local
  head_ = heading_local l x fs answer

  abbrev pub opened_ : Local
  opened_ = local_of_inner (next_block l.counts) 0 title_

  abbrev pub formals_ : Local
  formals_ = formals_local opened_ fs

  pub none_in_pieces : (all_at env_ (Declares x sort.Block) ≡ [])
      × (w.formals_sites [] both_lists all_at in_ opened_ fs ≡ [])
      × (w.parts_sites [] both_lists all_at in_ head_ parts ≡ [])
      × (w.statement_sites [] both_lists all_at in_ (parts_local head_ parts) body ≡ [])
  none_in_pieces =
      let one = none_in_parts (w.title_sites [] both_lists all_at env_ x fs answer)
      (both_lists (w.formals_sites [] both_lists all_at in_ opened_ fs)
      (both_lists (w.parts_sites [] both_lists all_at in_ head_ parts)
      (w.statement_sites [] both_lists all_at in_ (parts_local head_ parts) body))) calm in
      let name = none_in_parts (all_at env_ (Declares x sort.Block))
      (both_lists (w.heading_sites [] both_lists all_at env_ fs) (w.answer_sites [] both_lists all_at env_ answer))
      one.0 in
      let two = none_in_parts (w.formals_sites [] both_lists all_at in_ opened_ fs)
      (both_lists (w.parts_sites [] both_lists all_at in_ head_ parts)
      (w.statement_sites [] both_lists all_at in_ (parts_local head_ parts) body)) one.1 in
      let three = none_in_parts (w.parts_sites [] both_lists all_at in_ head_ parts)
      (w.statement_sites [] both_lists all_at in_ (parts_local head_ parts) body) two.1 in
      (name.0, two.0, three.0, three.1)

  -- the block is counted first, then the parameters, then the result
  pub title_moves : Moved l.counts title_.counts 0 0 0 1
  title_moves = subst (λ (d : Counts). Moved l.counts d 0 0 0 1)
      (sym (declared_counts l x.text sort.Block (block_meaning l fs answer)
      (room_at env_ x sort.Block none_in_pieces.0)))
      (counted (omega arith) (omega arith) (omega arith) (omega arith))

  pub formals_move : AddsVariables title_.counts formals_.counts (length (formals_named env_ (next_block l.counts) fs))
  formals_move = formals_adds in_ opened_ fs env_ (next_block l.counts) none_in_pieces.1

  pub head_blocks : next_block head_.counts ≡ suc (next_block l.counts)
  head_blocks = let a = title_moves.blocks_are in let b = formals_move.blocks_are in
      let c = (answer_adds formals_ env_ (next_block l.counts) x answer).blocks_are in omega (arith, a, b, c)

  pub head_number : head_.block ≡ next_block l.counts
  head_number = answer_block formals_ answer ∙ formals_block opened_ fs

mutual
  pub parts_below : (around : List names.Scope) (l : Local) (ps : Parts)
      → w.parts_sites [] both_lists all_at around l ps ≡ [] → suc l.block ≤ next_block l.counts
      → AreBelow (next_block l.counts) (parts_named around l ps).blocks
  parts_below around l NoPart calm low = tt
  parts_below around l (Declare q rest) calm low =
      let two = none_in_parts (w.part_sites [] both_lists all_at around l q)
      (w.parts_sites [] both_lists all_at around (part_local l q) rest) calm in
      let e = (part_moves around l q two.0).blocks_are in
      let b = part_block l q in
      below_join (next_block l.counts) (part_named around l q).blocks (parts_named around (part_local l q) rest).blocks
      (part_below around l q two.0 low)
      (subst (λ z. AreBelow z (parts_named around (part_local l q) rest).blocks) e
      (parts_below around (part_local l q) rest two.1 (omega (arith, low, e, b))))

  part_below : (around : List names.Scope) (l : Local) (q : Part) → w.part_sites [] both_lists all_at around l q ≡ []
      → suc l.block ≤ next_block l.counts → AreBelow (next_block l.counts) (part_named around l q).blocks
  part_below around l (Const x c) calm low = tt
  part_below around l (Kind x k) calm low = tt
  part_below around l (Var xs t) calm low = tt
  part_below around l (Proc x fs answer parts body) calm low =
      let e = head_blocks around l x fs answer parts body calm in
      let b = head_number around l x fs answer parts body calm in
      let inner = parts_below (blocks_around around (title_local l x fs answer)) (heading_local l x fs answer) parts
      (none_in_pieces around l x fs answer parts body calm).2 (omega (arith, e, b)) in (
        (λ q h. own q h),
        subst (λ z. AreBelow z
            (parts_named (blocks_around around (title_local l x fs answer)) (heading_local l x fs answer)
            parts).blocks) e
            inner,
      )
    where
      own : (q : ℕ) → Some l.block ≡ Some q → suc q ≤ next_block l.counts
      own q h = let s : l.block ≡ q = cc h in omega (arith, low, s)

-- ---- each name in each block

module _ (p : plain.Program) (m : ℕ) where
  scoped_join : (k : ℕ) (xs ys : List n.Block) → AreScoped p m k xs → AreScoped p m (k + length xs) ys
      → AreScoped p m k (xs ++ ys)
  scoped_join k [] ys x y = subst (λ z. AreScoped p m z ys) (let z : k + 0 ≡ k = omega arith in z) y
  scoped_join k (b ∷ xs) ys x y = (
    x.0,
    scoped_join (suc k) xs ys x.1
        (subst (λ z. AreScoped p m z ys) (let z : k + suc (length xs) ≡ suc k + length xs = omega arith in z) y),
  )

  held_parts : (k : ℕ) (xs ys : List n.Block) → HoldsBlocks p m k (xs ++ ys) → HoldsBlocks p m k xs
      × HoldsBlocks p m (k + length xs) ys
  held_parts k [] ys h = (tt, subst (λ z. HoldsBlocks p m z ys) (let z : k ≡ k + 0 = omega arith in z) h)
  held_parts k (b ∷ xs) ys h = let r = held_parts (suc k) xs ys h.1 in (
    (h.0, r.0),
    subst (λ z. HoldsBlocks p m z ys)
        (let z : suc k + length xs ≡ k + suc (length xs) = omega arith in z) r.1,
  )

  -- what stands around the parts of a block; a: the number of its result
  pub record IsOpen (sc : List Scope) (block a : ℕ) (around : List names.Scope) (l : Local) : Type 0 where
    pub visible : IsVisible p m sc (inner_env around l)
    pub own : l.block ≡ block
    pub home : IsScope (OfBlock block) sc
    pub near : (level (is_block block) sc ≡ Some 0) ⊎ IsInForall sc
    pub result : l.answer ≡ a

  answer_open : (sc : List Scope) (block : ℕ) (around : List names.Scope) (l : Local) (answer : Option Name)
      → IsOpen sc block 0 around l → IsOpen sc block (answer_local l answer).answer around (answer_local l answer)
  answer_open sc block around l None h = record {
    visible = h.visible;
    own = h.own;
    home = h.home;
    near = h.near;
    result = refl;
  }
  answer_open sc block around l (Some t) h =
      record { visible = h.visible; own = h.own; home = h.home; near = h.near; result = refl }

  answer_is : (answer : Option Name) (j y : ℕ) (o : Option ℕ) → o ≡ answer_variable (answer_of j answer) → o ≡ Some y
      → j ≡ y
  answer_is None j y o e h = absurd (cc (e, h))
  answer_is (Some t) j y o e h = cc (e, h)

  block_valid : (l : Local) (sc : List Scope) (fs : List SynFormal) (answer : Option Name) (j : ℕ) (c : plain.Block)
      → slice_get p.blocks (next_block l.counts) ≡ Some c → AreFlags p m (references fs) c.formals → (q : ℕ)
      × (c.parent ≡ Some q) × IsScope (OfBlock q) sc → c.answer ≡ answer_variable (answer_of j answer)
      → IsValid p m sc (block_meaning l fs answer)
  block_valid l sc fs None j c at flags parent e = (c, (at, flags, parent), e)
  block_valid l sc fs (Some t) j c at flags parent e = (c, (at, flags, parent), (j, e))

  own_level : (f : ℕ) (sc : List Scope) → level (is_block f) (OfBlock f ∷ sc) ≡ Some 0
  own_level f sc = ap (λ (z : Bool). if z then Some 0 else one_more (level (is_block f) sc)) (eq-eqb f f refl)

  -- a name more
  put_valid : (sc : List Scope) (b : names.Scope) (name : List ℕ) (y : Meaning) → AreValid p m sc b → IsValid p m sc y
      → AreValid p m sc (put b name y)
  put_valid sc [] name y h v = (v, tt)
  put_valid sc (e ∷ es) name y h v = go (bytes_eq name e.0) (put_valid sc es name y h.1 v)
    where
      go : (z : Bool) → AreValid p m sc (put es name y)
          → AreValid p m sc (if z then (e.0, y) ∷ es else e ∷ put es name y)
      go true r = (v, h.1)
      go false r = (h.0, r)

  place_declared : (sc : List Scope) (block a : ℕ) (around : List names.Scope) (l : Local) (name : List ℕ) (s : Sort)
      (y : Meaning) → IsOpen sc block a around l → IsValid p m sc y
      → IsOpen sc block a around (with_declaration l name s y)
  place_declared sc block a around l name s y h v = go (nat_le declaration_limit (names.count s l.counts))
    where
      go : (b : Bool) → IsOpen sc block a around
          (if b then l else record {
            here = put l.here name y;
            block = l.block;
            answer = l.answer;
            counts = names.with_one_more s l.counts;
          })
      go true = h
      go false = record {
        visible = (h.visible.0, put_valid sc l.here name y h.visible.1 v);
        own = h.own;
        home = h.home;
        near = h.near;
        result = h.result;
      }

  -- roles of declared names
  abbrev IsRoleAround : Role → Type 0
  IsRoleAround r = (sc : List Scope) (x b : ℕ) → IsScope (OfBlock b) sc → IsAround p m sc x b r

  names_place : (sc : List Scope) (block a : ℕ) (around : List names.Scope) (r : Role) (l : Local) (xs : List Name)
      (k : ℕ) → IsRoleAround r → IsOpen sc block a around l → w.names_sites [] both_lists all_at around r l xs ≡ []
      → HoldsVariables p m (next_variable l.counts) (variables_named block r k xs)
      → IsOpen sc block a around (names_local r l xs)
  names_place sc block a around r l [] k is place calm holds = place
  names_place sc block a around r l (x ∷ xs) k is place calm ((v, vat, vr, vb), holds) =
      let next = with_declaration l x.text sort.Variable (variable l r) in
      let two = none_in_parts (all_at (inner_env around l) (Declares x sort.Variable))
      (w.names_sites [] both_lists all_at around r next xs) calm in
      let e = (one_variable l x.text (variable l r) (room_at (inner_env around l) x sort.Variable two.0)).variables_are
      in
      let one : next_variable next.counts ≡ suc (next_variable l.counts) = omega (arith, e) in
      let valid : IsValid p m sc (variable l r) = (
        v,
        vat,
        vr,
        vb ∙ sym place.own,
        is sc (next_variable l.counts) l.block
            (subst (λ z. IsScope (OfBlock z) sc) (sym place.own) place.home),
      ) in
      names_place sc block a around r next xs k is
      (place_declared sc block a around l x.text sort.Variable (variable l r) place valid) two.1
      (subst (λ z. HoldsVariables p m z (variables_named block r k xs)) (sym one) holds)

  local_named : IsRoleAround role.Local
  local_named sc x b h = h

  formal_named : (b : Bool) → IsRoleAround (role_of b)
  formal_named true sc x b h = h
  formal_named false sc x b h = h

  formals_place : (sc : List Scope) (block a : ℕ) (around : List names.Scope) (l : Local) (fs : List SynFormal)
      (env : Env) → IsOpen sc block a around l → w.formals_sites [] both_lists all_at around l fs ≡ []
      → HoldsVariables p m (next_variable l.counts) (formals_named env block fs)
      → IsOpen sc block a around (formals_local l fs)
  formals_place sc block a around l [] env place calm holds = place
  formals_place sc block a around l (f ∷ fs) env place calm holds =
      let k = kind_number (find env f.kind.text) in
      let r = role_of f.by_reference in
      let next = names_local r l f.names in
      let two = none_in_parts (w.names_sites [] both_lists all_at around r l f.names)
      (w.formals_sites [] both_lists all_at around next fs) calm in
      let h = holds_parts p m (next_variable l.counts) (variables_named block r k f.names) (formals_named env block fs)
      holds in
      formals_place sc block a around next fs env
      (names_place sc block a around r l f.names k (formal_named f.by_reference) place two.0 h.0) two.1
      (subst (λ z. HoldsVariables p m z (formals_named env block fs))
      (sym (names_adds around r l f.names block k two.0).variables_are)
      h.1)

  -- the flags of a heading are those of its parameters
  names_flags : (r : Bool) (block k j : ℕ) (xs : List Name) (bs : List Bool) (us : List checked.Variable)
      → HoldsVariables p m j (variables_named block (role_of r) k xs ++ us)
      → (HoldsVariables p m (j + length (variables_named block (role_of r) k xs)) us
      → AreFlags p m bs (numbers (j + length (variables_named block (role_of r) k xs)) us))
      → AreFlags p m (map (λ (x : Name). r) xs ++ bs) (numbers j (variables_named block (role_of r) k xs ++ us))
  names_flags r block k j [] bs us holds later = let e : j + 0 ≡ j = omega arith in
      subst (λ z. AreFlags p m bs (numbers z us)) e (later (subst (λ z. HoldsVariables p m z us) (sym e) holds))
  names_flags r block k j (x ∷ xs) bs us ((v, vat, vr, vb), holds) later =
      let e : j + suc (length (variables_named block (role_of r) k xs)) ≡ suc j
      + length (variables_named block (role_of r) k xs) = omega arith in (
        (v, vat, vr),
        names_flags r block k (suc j) xs bs us holds
            (subst (λ z. HoldsVariables p m z us → AreFlags p m bs (numbers z us)) e later),
      )

  flags : (env : Env) (block j : ℕ) (fs : List SynFormal) → HoldsVariables p m j (formals_named env block fs)
      → AreFlags p m (references fs) (numbers j (formals_named env block fs))
  flags env block j [] holds = tt
  flags env block j (f ∷ fs) holds =
      names_flags f.by_reference block (kind_number (find env f.kind.text)) j f.names (references fs)
      (formals_named env block fs) holds
      (λ h. flags env block (j + length (variables_named block (role_of f.by_reference)
      (kind_number (find env f.kind.text)) f.names)) fs h)

  -- the constants of an enumeration
  constants_place : (sc : List Scope) (block a : ℕ) (around : List names.Scope) (l : Local) (xs : List Name) (k i : ℕ)
      → IsOpen sc block a around l → w.enumerated_sites [] both_lists all_at around l xs ≡ []
      → next_constant l.counts + length (enumeration_constants k i xs) ≤ m
      → IsOpen sc block a around (constants_local l xs)
  constants_place sc block a around l [] k i place calm few = place
  constants_place sc block a around l (x ∷ xs) k i place calm few =
      let y = meaning.Constant (next_constant l.counts) in
      let next = with_declaration l x.text sort.Constant y in
      let two = none_in_parts (all_at (inner_env around l) (Declares x sort.Constant))
      (w.enumerated_sites [] both_lists all_at around next xs) calm in
      let e = ap next_constant (declared_counts l x.text sort.Constant y
      (room_at (inner_env around l) x sort.Constant two.0)) in
      constants_place sc block a around next xs k (suc i)
      (place_declared sc block a around l x.text sort.Constant y place (omega (arith, few))) two.1
      (omega (arith, few, e))

  kind_place : (sc : List Scope) (block a : ℕ) (around : List names.Scope) (l : Local) (k : SynKind) (j : ℕ)
      → IsOpen sc block a around l → w.kind_constants_sites [] both_lists all_at around l k ≡ []
      → next_constant l.counts + length (constants_named j k) ≤ m → IsOpen sc block a around (kind_local l k)
  kind_place sc block a around l (kinds.Enumeration xs) j place calm few =
      constants_place sc block a around l xs j 0 place calm few
  kind_place _ _ _ _ _ _ _ place _ _ = place

  -- what a part declares stands in the tables of the program
  abbrev pub PartInTables : Counts → n.Program → Type 0
  PartInTables c t = (next_constant c + length t.constants ≤ m) × HoldsVariables p m (next_variable c) t.variables
      × HoldsBlocks p m (next_block c) t.blocks

  module _ (steps : (f q : ℕ) (b : plain.Block) → slice_get p.blocks f ≡ Some b → b.parent ≡ Some q
      → scopes_of p f ≡ OfBlock f ∷ scopes_of p q)
      (results : (f : ℕ) (b : plain.Block) (x : ℕ) → slice_get p.blocks f ≡ Some b → b.answer ≡ Some x
      → (v : plain.Variable) × (slice_get p.variables x ≡ Some v) × (v.role ≡ role.Answer) × (v.block ≡ f)) where
    mutual
      pub parts_scoped : (rest : List Scope) (block a : ℕ) (around : List names.Scope) (l : Local) (ps : Parts)
          → IsChain p m (OfBlock block ∷ rest) → IsOpen (OfBlock block ∷ rest) block a around l
          → w.parts_sites [] both_lists all_at around l ps ≡ [] → PartInTables l.counts (parts_named around l ps)
          → IsOpen (OfBlock block ∷ rest) block a around (parts_local l ps)
          × AreScoped p m (next_block l.counts) (parts_named around l ps).blocks
      parts_scoped rest block a around l NoPart chain place calm fits = (place, tt)
      parts_scoped rest block a around l (Declare q more) chain place calm (few, vars, blocks) =
          let next = part_local l q in
          let two = none_in_parts (w.part_sites [] both_lists all_at around l q)
          (w.parts_sites [] both_lists all_at around next more) calm in
          let ta = part_named around l q in
          let tb = parts_named around next more in
          let moved = part_moves around l q two.0 in
          let vs = holds_parts p m (next_variable l.counts) ta.variables tb.variables vars in
          let bs = held_parts (next_block l.counts) ta.blocks tb.blocks blocks in
          let len = length-append ta.constants tb.constants in
          let e0 = moved.constants_are in
          let r = part_scoped rest block a around l q chain place two.0 ((omega (arith, few, len)), vs.0, bs.0) in
          let s = parts_scoped rest block a around next more chain r.0 two.1 (
            (omega (arith, few, len, e0)),
            subst (λ z. HoldsVariables p m z tb.variables) (sym moved.variables_are) vs.1,
            subst (λ z. HoldsBlocks p m z tb.blocks) (sym moved.blocks_are) bs.1,
          ) in (
            s.0,
            scoped_join (next_block l.counts) ta.blocks tb.blocks r.1
                (subst (λ z. AreScoped p m z tb.blocks) moved.blocks_are s.1),
          )

      part_scoped : (rest : List Scope) (block a : ℕ) (around : List names.Scope) (l : Local) (q : Part)
          → IsChain p m (OfBlock block ∷ rest) → IsOpen (OfBlock block ∷ rest) block a around l
          → w.part_sites [] both_lists all_at around l q ≡ [] → PartInTables l.counts (part_named around l q)
          → IsOpen (OfBlock block ∷ rest) block a around (part_local l q)
          × AreScoped p m (next_block l.counts) (part_named around l q).blocks
      part_scoped rest block a around l (Const x c) chain place calm (few, vars, blocks) = (
        place_declared (OfBlock block ∷ rest) block a around l x.text sort.Constant
            (meaning.Constant (next_constant l.counts)) place (omega (arith, few)),
        tt,
      )
      part_scoped rest block a around l (Kind x k) chain place calm (few, vars, blocks) =
          let y = meaning.Kind (next_kind l.counts) in
          let one = none_in_parts (all_at (inner_env around l) (Declares x sort.Kind))
          (both_lists (w.kind_sites [] both_lists all_at (inner_env around l) x k)
          (w.kind_constants_sites [] both_lists all_at around (type_local l x) k)) calm in
          let two = none_in_parts (w.kind_sites [] both_lists all_at (inner_env around l) x k)
          (w.kind_constants_sites [] both_lists all_at around (type_local l x) k) one.1 in
          let e : next_constant (type_local l x).counts ≡ next_constant l.counts =
          ap next_constant (declared_counts l x.text sort.Kind y (room_at (inner_env around l) x sort.Kind one.0)) in (
            kind_place (OfBlock block ∷ rest) block a around (type_local l x) k (next_kind l.counts)
                (place_declared (OfBlock block ∷ rest) block a around l x.text sort.Kind y place tt) two.1
                (subst (λ z. z + length (constants_named (next_kind l.counts) k) ≤ m) (sym e) few),
            tt,
          )
      part_scoped rest block a around l (Var xs t) chain place calm (few, vars, blocks) =
          let k = kind_number (find (inner_env around l) t.text) in (
            names_place (OfBlock block ∷ rest) block a around role.Local l xs k local_named place
                (none_in_parts (all_at (inner_env around l) (Uses t AsKind))
                (w.names_sites [] both_lists all_at around role.Local l xs) calm).1
                (subst (λ z. HoldsVariables p m (next_variable l.counts) (variables_named z role.Local k xs))
                place.own vars),
            tt,
          )
      part_scoped rest block a around l (Proc x fs answer parts body) chain place calm
          (few, vars, ((c, cat, cp, cf, ca), blocks)) =
          let f = next_block l.counts in
          let env = inner_env around l in
          let title = title_local l x fs answer in
          let sc = OfBlock block ∷ rest in
          let sc2 = OfBlock f ∷ sc in
          let in_ = blocks_around around title in
          let head = heading_local l x fs answer in
          let (_, formals_calm, parts_calm, body_calm) = none_in_pieces around l x fs answer parts body calm in
          let formals = formals_local (local_of_inner f 0 title) fs in
          let av = formals_named env f fs in
          let bv = answer_named env f x answer in
          let inner = parts_named in_ head parts in
          let d = indices head.block body in
          let k = next_variable l.counts in
          let number = head_number around l x fs answer parts body calm in
          let v1 = holds_parts p m k av (bv ++ (inner.variables ++ d)) vars in
          let v2 = holds_parts p m (k + length av) bv (inner.variables ++ d) v1.1 in
          let v3 = holds_parts p m (k + length av + length bv) inner.variables d v2.1 in
          let m1 = title_moves around l x fs answer parts body calm in
          let m2 = formals_move around l x fs answer parts body calm in
          let m3 = answer_adds formals env f x answer in
          let m4 = parts_move in_ head parts parts_calm in
          let t2 = m1.variables_are in
          let f2 = m2.variables_are in
          let a2 = m3.variables_are in
          let p2 = m4.variables_are in
          let t0 = m1.constants_are in
          let f0 = m2.constants_are in
          let a0 = m3.constants_are in
          let at_title : k ≡ next_variable title.counts = omega (arith, t2) in
          let at_head : k + length av + length bv ≡ next_variable head.counts = omega (arith, t2, f2, a2) in
          let at_body : k + length av + length bv + length inner.variables
          ≡ next_variable (parts_local head parts).counts = omega (arith, t2, f2, a2, p2) in
          let parent : c.parent ≡ Some block = cp ∙ ap Some place.own in
          let fits_flags = subst (AreFlags p m (references fs)) (sym cf) (flags env f k fs v1.0) in
          let valid = block_valid l sc fs answer head.answer c cat fits_flags (block, parent, place.home) ca in
          let outer = place_declared sc block a around l x.text sort.Block (block_meaning l fs answer) place valid in
          let base : IsOpen sc2 f 0 in_ (local_of_inner f 0 title) = record {
            visible = (
              all_behind p m sc2 around title.here (more_all p m (OfBlock f) sc around outer.visible.0)
                  (more_valid p m (OfBlock f) sc title.here outer.visible.1),
              tt,
            );
            own = refl;
            home = inl refl;
            near = inl (own_level f sc);
            result = refl;
          } in
          let formals_open = formals_place sc2 f 0 in_ (local_of_inner f 0 title) fs env base formals_calm
          (subst (λ z. HoldsVariables p m z av) at_title v1.0) in
          let head_open = answer_open sc2 f in_ formals answer formals_open in
          let chain2 : IsChain p m sc2 = (steps f block c cat parent ∙ ap (λ z. OfBlock f ∷ z) chain.0, chain) in
          let few2 : next_constant head.counts + length inner.constants ≤ m = omega (arith, few, t0, f0, a0) in
          let in_blocks = head_blocks around l x fs answer parts body calm in
          let r = parts_scoped sc f head.answer in_ head parts chain2 head_open parts_calm (
            few2,
            subst (λ z. HoldsVariables p m z inner.variables) at_head v3.0,
            subst (λ z. HoldsBlocks p m z inner.blocks) (sym in_blocks) blocks,
          ) in
          let body_place : IsPlace p m sc2 f in_ (parts_local head parts) = record {
            visible = r.0.visible;
            own = r.0.own;
            home = r.0.home;
            near = r.0.near;
            answer = λ u y uat ans. r.0.result
                ∙ answer_is answer head.answer y c.answer ca
                (ap (λ (z : plain.Block). z.answer) (same_Some c u (sym cat ∙ uat)) ∙ ans);
          } in
          let body_in = statement_in p m steps results f sc2 in_ (parts_local head parts) body chain2 body_place
          body_calm (subst (λ z. HoldsVariables p m (next_variable (parts_local head parts).counts)
          (indices z body)) number
          (subst (λ z. HoldsVariables p m z d) at_body v3.1)) in (
            record {
              visible = outer.visible;
              own = outer.own;
              home = outer.home;
              near = outer.near;
              result = outer.result;
            },
            (
              subst (λ z. InStatement p m z (named_statement in_ (parts_local head parts) body)) (sym chain2.0) body_in,
              subst (λ z. AreScoped p m z inner.blocks) in_blocks r.1,
            ),
          )
