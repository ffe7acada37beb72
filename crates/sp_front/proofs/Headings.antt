-- The parameters and the result of a block are its variables of these roles, in order.
use Rattle.std.proofs.Common.{◌≡◌, refl, ap, sym, ◌∙◌, subst, ℕ, suc, ◌+◌, ◌≤◌, ◌==◌, List, [], ◌∷◌, ◌++◌, Option, Bool}
use Rattle.std.proofs.Common.{true, false, if◌then◌else◌, length, arith, eq-eqb}
use Rattle.std.specs.Prelude.{◌&&◌, map}
use Rattle.sp_tree.specs.declared.checked.Role.{Role}
use Rattle.sp_tree.specs.declared.checked.Role.TheVariants as role
use Rattle.sp_tree.specs.declared.syntax.Name.{Name}
use Rattle.sp_tree.specs.NameFirst.{both_lists, all_at}
use Rattle.sp_tree.specs.Scopes as names
use Rattle.sp_tree.specs.Scopes.{Env, find}
use Rattle.sp_tree.specs.NameWalk as w
use Rattle.sp_tree.specs.NameWalk.{role_of}
use Rattle.sp_tree.specs.PlainNamed as n
use Rattle.sp_front.proofs.NoBreachInParts.{none_in_parts}
use Rattle.std.proofs.lemmas.List.{length-append, append-nil}
use Rattle.std.proofs.lemmas.Bool.{eqb-true}
use Rattle.sp_tree.specs.declared.checked.Variable as checked
use Rattle.sp_tree.specs.Scopes.{Local, inner_env, local_of_inner, next_variable}
use Rattle.sp_tree.specs.NameWalk.{blocks_around}
use Rattle.sp_tree.specs.NamedTree.{indices}
use Rattle.sp_tree.specs.PlainSyntax.{Statement}
use Rattle.sp_tree.specs.declared.syntax.SynFormal.{SynFormal}
use Rattle.sp_tree.specs.Scopes.{next_block}
use Rattle.sp_tree.specs.NameWalk.{formals_local, title_local, heading_local}
use Rattle.sp_tree.specs.NameWalk.{part_local}
use Rattle.sp_tree.specs.NamedTree.{kind_number, variables_named, formals_named, numbers, answer_named, parts_named}
use Rattle.sp_tree.specs.NamedTree.{part_named}
use Rattle.sp_tree.specs.PlainSyntax.{Part, Const, Kind, Var, Proc, Parts, NoPart, Declare}
use Rattle.sp_front.proofs.DeclarationNumbers.{answer_adds, part_moves}
use Rattle.sp_tree.specs.NamedTree.{Inside, inside_with, procedure_block}
use Rattle.sp_tree.specs.Bare.{variable_of}
use Rattle.sp_tree.specs.Cells.{variables_of}
use Rattle.sp_tree.specs.TreeShape.{numbers_with_role}
use Rattle.sp_front.specs.ForEach.{HoldsOfEach}
use Rattle.sp_front.proofs.Variables.{each_join, names_each, formals_each, answer_each, indices_each}
use Rattle.sp_front.proofs.Blocks.{none_in_pieces, title_moves, formals_move, head_blocks}

-- the numbers of a block's variables with such a role, from a number on
abbrev pub own : (Role → Bool) → ℕ → ℕ → List checked.Variable → List ℕ
own fits f k [] = []
own fits f k (u ∷ us) = if (u.block == f) && fits u.role then k ∷ own fits f (suc k) us else own fits f (suc k) us

-- a block's list, by its number
abbrev pub in_blocks : (n.Block → List ℕ) → ℕ → ℕ → List n.Block → List ℕ
in_blocks g f k [] = []
in_blocks g f k (b ∷ bs) = if k == f then g b else in_blocks g f (suc k) bs

pub among_own : (fits : Role → Bool) (f k : ℕ) (us : List checked.Variable)
    → numbers_with_role fits (variables_of f k (map variable_of us)) ≡ own fits f k us
among_own fits f k [] = refl
among_own fits f k (u ∷ us) = go (u.block == f) (fits u.role) refl (among_own fits f (suc k) us)
  where
    go : (b r : Bool) → fits u.role ≡ r → numbers_with_role fits (variables_of f (suc k) (map variable_of us))
        ≡ own fits f (suc k) us
        → numbers_with_role fits (if b then (k, variable_of u) ∷ variables_of f (suc k) (map variable_of us) else
        variables_of f (suc k) (map variable_of us))
        ≡ (if b && r then k ∷ own fits f (suc k) us else own fits f (suc k) us)
    go true true e h = ap
        (λ (z : Bool). if z then k ∷ numbers_with_role fits (variables_of f (suc k) (map variable_of us)) else
        numbers_with_role fits (variables_of f (suc k) (map variable_of us))) e ∙ ap (λ z. k ∷ z) h
    go true false e h = ap
        (λ (z : Bool). if z then k ∷ numbers_with_role fits (variables_of f (suc k) (map variable_of us)) else
        numbers_with_role fits (variables_of f (suc k) (map variable_of us))) e ∙ h
    go false r e h = h

pub own_join : (fits : Role → Bool) (f k : ℕ) (us vs : List checked.Variable)
    → own fits f k (us ++ vs) ≡ own fits f k us ++ own fits f (k + length us) vs
own_join fits f k [] vs = ap (λ z. own fits f z vs) (let z : k ≡ k + 0 = omega arith in z)
own_join fits f k (u ∷ us) vs = go ((u.block == f) && fits u.role)
    (own_join fits f (suc k) us vs ∙ ap (λ z. own fits f (suc k) us ++ own fits f z vs)
    (let z : suc k + length us ≡ k + suc (length us) = omega arith in z))
  where
    go : (b : Bool) → own fits f (suc k) (us ++ vs) ≡ own fits f (suc k) us ++ own fits f (k + suc (length us)) vs
        → (if b then k ∷ own fits f (suc k) (us ++ vs) else own fits f (suc k) (us ++ vs))
        ≡ (if b then k ∷ own fits f (suc k) us else own fits f (suc k) us) ++ own fits f (k + suc (length us)) vs
    go true h = ap (λ z. k ∷ z) h
    go false h = h

-- all are of this block
abbrev pub AllOf : ℕ → List checked.Variable → Type 0
AllOf b = HoldsOfEach (λ (u : checked.Variable). u.block ≡ b)

-- all are of roles for which the test says this
abbrev pub AllRolesFit : (Role → Bool) → Bool → List checked.Variable → Type 0
AllRolesFit fits r = HoldsOfEach (λ (u : checked.Variable). fits u.role ≡ r)

pub own_all : (fits : Role → Bool) (b k : ℕ) (us : List checked.Variable) → AllOf b us → AllRolesFit fits true us
    → own fits b k us ≡ numbers k us
own_all fits b k [] x y = refl
own_all fits b k (u ∷ us) x y = ap (λ (z : Bool). if z && fits u.role then k ∷ own fits b (suc k) us else
    own fits b (suc k) us) (eq-eqb u.block b x.0)
    ∙ ap (λ (z : Bool). if z then k ∷ own fits b (suc k) us else own fits b (suc k) us) y.0
    ∙ ap (λ z. k ∷ z) (own_all fits b (suc k) us x.1 y.1)

own_other : (fits : Role → Bool) (b f k : ℕ) (us : List checked.Variable) → AllOf b us → (b == f) ≡ false
    → own fits f k us ≡ []
own_other fits b f k [] x d = refl
own_other fits b f k (u ∷ us) x d = ap (λ (z : Bool). if z && fits u.role then k ∷ own fits f (suc k) us else
    own fits f (suc k) us) (subst (λ z. (z == f) ≡ false) (sym x.0) d) ∙ own_other fits b f (suc k) us x.1 d

pub own_none : (fits : Role → Bool) (f k : ℕ) (us : List checked.Variable) → AllRolesFit fits false us
    → own fits f k us ≡ []
own_none fits f k [] y = refl
own_none fits f k (u ∷ us) y = both (u.block == f) ∙ own_none fits f (suc k) us y.1
  where
    both : (b : Bool) → (if b && fits u.role then k ∷ own fits f (suc k) us else own fits f (suc k) us)
        ≡ own fits f (suc k) us
    both true = ap (λ (z : Bool). if z then k ∷ own fits f (suc k) us else own fits f (suc k) us) y.0
    both false = refl

pub blocks_below : (g : n.Block → List ℕ) (f k : ℕ) (bs : List n.Block) → suc f ≤ k → in_blocks g f k bs ≡ []
blocks_below g f k [] l = refl
blocks_below g f k (b ∷ bs) l = ap (λ (z : Bool). if z then g b else in_blocks g f (suc k) bs) (differs k f l)
    ∙ blocks_below g f (suc k) bs (omega (arith, l))
  where
    differs : (k f : ℕ) → suc f ≤ k → (k == f) ≡ false
    differs k f l = Prim.grind (arith, l)

blocks_join : (g : n.Block → List ℕ) (f k : ℕ) (xs ys : List n.Block)
    → in_blocks g f k (xs ++ ys) ≡ in_blocks g f k xs ++ in_blocks g f (k + length xs) ys
blocks_join g f k [] ys = ap (λ z. in_blocks g f z ys) (let z : k ≡ k + 0 = omega arith in z)
blocks_join g f k (b ∷ xs) ys = go (k == f) refl
    (blocks_join g f (suc k) xs ys ∙ ap (λ z. in_blocks g f (suc k) xs ++ in_blocks g f z ys)
    (let z : suc k + length xs ≡ k + suc (length xs) = omega arith in z))
  where
    last : (xs : List ℕ) → xs ≡ xs ++ []
    last [] = refl
    last (x ∷ xs) = ap (λ z. x ∷ z) (last xs)

    go : (z : Bool) → (k == f) ≡ z → in_blocks g f (suc k) (xs ++ ys) ≡ in_blocks g f (suc k) xs
        ++ in_blocks g f (k + suc (length xs)) ys
        → (if z then g b else in_blocks g f (suc k) (xs ++ ys)) ≡ (if z then g b else in_blocks g f (suc k) xs)
        ++ in_blocks g f (k + suc (length xs)) ys
    go true e h = let s = eqb-true k f e in last (g b)
        ∙ ap (λ z. g b ++ z) (sym (blocks_below g f (k + suc (length xs)) ys (omega (arith, s))))
    go false e h = h

pub formals_of_ : (env : Env) (b : ℕ) (fs : List SynFormal) → AllOf b (formals_named env b fs)
formals_of_ env b fs = formals_each (λ (u : checked.Variable). u.block ≡ b) b env fs (λ x k r. refl)

pub formals_fit : (fits : Role → Bool) (z : Bool) → ((r : Bool) → fits (role_of r) ≡ z)
    → (env : Env) (b : ℕ) (fs : List SynFormal) → AllRolesFit fits z (formals_named env b fs)
formals_fit fits z h env b fs = formals_each (λ (u : checked.Variable). fits u.role ≡ z) b env fs (λ x k r. h r)

pub answer_of_ : (env : Env) (b : ℕ) (x : Name) (answer : Option Name) → AllOf b (answer_named env b x answer)
answer_of_ env b x answer = answer_each (λ (u : checked.Variable). u.block ≡ b) b env x answer (λ k. refl)

pub answer_fit : (fits : Role → Bool) (z : Bool) → fits role.Answer ≡ z
    → (env : Env) (b : ℕ) (x : Name) (answer : Option Name) → AllRolesFit fits z (answer_named env b x answer)
answer_fit fits z e env b x answer = answer_each (λ (u : checked.Variable). fits u.role ≡ z) b env x answer (λ k. e)

pub indices_fit : (fits : Role → Bool) → fits role.Index ≡ false → (block : ℕ) (s : Statement)
    → AllRolesFit fits false (indices block s)
indices_fit fits d block s = indices_each (λ (u : checked.Variable). fits u.role ≡ false) block (λ x. d) s

same_names : (b k1 k2 : ℕ) (r : Role) (xs : List Name)
    → length (variables_named b r k1 xs) ≡ length (variables_named b r k2 xs)
same_names b k1 k2 r [] = refl
same_names b k1 k2 r (x ∷ xs) = ap suc (same_names b k1 k2 r xs)

pub same_formals : (e1 e2 : Env) (b : ℕ) (fs : List SynFormal)
    → length (formals_named e1 b fs) ≡ length (formals_named e2 b fs)
same_formals e1 e2 b [] = refl
same_formals e1 e2 b (f ∷ fs) =
    let k1 = kind_number (find e1 f.kind.text) in
    let k2 = kind_number (find e2 f.kind.text) in
    let r = role_of f.by_reference in
    let x = length-append (variables_named b r k1 f.names) (formals_named e1 b fs) in
    let y = length-append (variables_named b r k2 f.names) (formals_named e2 b fs) in
    let u = same_names b k1 k2 r f.names in
    let v = same_formals e1 e2 b fs in
    omega (arith, x, y, u, v)

-- fits: a test of roles, which local variables and indices don't pass; g: a block's list; heading: it is that of the
-- variables of its heading
module _ (fits : Role → Bool) (no_local : fits role.Local ≡ false) (no_index : fits role.Index ≡ false)
    (g : n.Block → List ℕ)
    (heading : (l : Local) (x : Name) (fs : List SynFormal) (answer : Option Name) (i : Inside)
    → next_variable (formals_local (local_of_inner (next_block l.counts) 0 (title_local l x fs answer)) fs).counts
    ≡ next_variable l.counts + length (formals_named (inner_env [] l) (next_block l.counts) fs)
    → (env : Env) → env.local ≡ l → i.answer ≡ (heading_local l x fs answer).answer
    → own fits (next_block l.counts) (next_variable l.counts)
    (formals_named env (next_block l.counts) fs ++ answer_named env (next_block l.counts) x answer)
    ≡ g (procedure_block env x fs answer i)) (f : ℕ) where
  mutual
    pub parts_own : (around : List names.Scope) (l : Local) (ps : Parts)
        → w.parts_sites [] both_lists all_at around l ps ≡ []
        → own fits f (next_variable l.counts) (parts_named around l ps).variables
        ≡ in_blocks g f (next_block l.counts) (parts_named around l ps).blocks
    parts_own around l NoPart calm = refl
    parts_own around l (Declare q rest) calm =
        let next = part_local l q in
        let two = none_in_parts (w.part_sites [] both_lists all_at around l q)
        (w.parts_sites [] both_lists all_at around next rest) calm in
        let a = part_named around l q in
        let b = parts_named around next rest in
        let moved = part_moves around l q two.0 in
        let k = next_variable l.counts in
        let j = next_block l.counts in
        let later : own fits f (k + length a.variables) b.variables ≡ in_blocks g f (j + length a.blocks) b.blocks =
        subst (λ z. own fits f z b.variables ≡ in_blocks g f (j + length a.blocks) b.blocks) moved.variables_are
        (subst (λ z. own fits f (next_variable next.counts) b.variables ≡ in_blocks g f z b.blocks) moved.blocks_are
        (parts_own around next rest two.1)) in
        own_join fits f k a.variables b.variables
        ∙ ap (λ z. z ++ own fits f (k + length a.variables) b.variables) (part_own around l q two.0)
        ∙ ap (λ z. in_blocks g f j a.blocks ++ z) later ∙ sym (blocks_join g f j a.blocks b.blocks)

    part_own : (around : List names.Scope) (l : Local) (q : Part) → w.part_sites [] both_lists all_at around l q ≡ []
        → own fits f (next_variable l.counts) (part_named around l q).variables
        ≡ in_blocks g f (next_block l.counts) (part_named around l q).blocks
    part_own around l (Const x c) calm = refl
    part_own around l (Kind x k) calm = refl
    part_own around l (Var xs t) calm = own_none fits f (next_variable l.counts)
        (variables_named l.block role.Local (kind_number (find (inner_env around l) t.text)) xs)
        (names_each (λ (u : checked.Variable). fits u.role ≡ false) l.block role.Local
        (kind_number (find (inner_env around l) t.text)) xs (λ x. no_local))
    part_own around l (Proc x fs answer parts body) calm =
        let j = next_block l.counts in
        let k = next_variable l.counts in
        let env = inner_env around l in
        let title = title_local l x fs answer in
        let in_ = blocks_around around title in
        let head = heading_local l x fs answer in
        let formals = formals_local (local_of_inner j 0 title) fs in
        let pieces = none_in_pieces around l x fs answer parts body calm in
        let a = formals_named env j fs in
        let b = answer_named env j x answer in
        let inner = parts_named in_ head parts in
        let d = indices head.block body in
        let m1 = (title_moves around l x fs answer parts body calm).variables_are in
        let m2 = (formals_move around l x fs answer parts body calm).variables_are in
        let m3 = (answer_adds formals env j x answer).variables_are in
        let at_head : k + length a + length b ≡ next_variable head.counts = omega (arith, m1, m2, m3) in
        let inside_ = parts_own in_ head parts pieces.2 in
        let blocks_ = head_blocks around l x fs answer parts body calm in
        let none = own_none fits f (k + length a + length b + length inner.variables) d
        (indices_fit fits no_index head.block body) in
        let mid : own fits f (k + length a + length b) inner.variables ≡ in_blocks g f (suc j) inner.blocks =
        subst (λ z. own fits f z inner.variables ≡ in_blocks g f (suc j) inner.blocks) (sym at_head)
        (subst (λ z. own fits f (next_variable head.counts) inner.variables ≡ in_blocks g f z inner.blocks) blocks_
        inside_) in
        let i = inside_with in_ head parts body inner in
        let tail : own fits f (k + length a + length b) (inner.variables ++ d) ≡ in_blocks g f (suc j) inner.blocks =
        own_join fits f (k + length a + length b) inner.variables d
        ∙ ap (λ z. own fits f (k + length a + length b) inner.variables ++ z) none
        ∙ append-nil (own fits f (k + length a + length b) inner.variables) ∙ mid in
        let same_length = same_formals env (inner_env [] l) j fs in
        let first = heading l x fs answer i (let z : next_variable formals.counts ≡ k
        + length (formals_named (inner_env [] l) j fs) = omega (arith, m1, m2, same_length) in z) env refl refl in
        split (j == f) refl k a b (inner.variables ++ d) (g (procedure_block env x fs answer i))
        (in_blocks g f (suc j) inner.blocks)
        (each_join (λ (u : checked.Variable). u.block ≡ j) a b (formals_of_ env j fs) (answer_of_ env j x answer))
        first tail (λ e. blocks_below g f (suc j) inner.blocks (omega (arith, e)))
      where
        split : (z : Bool) → (next_block l.counts == f) ≡ z
            → (k : ℕ) (a b rest : List checked.Variable) (mine others_ : List ℕ) → AllOf (next_block l.counts) (a ++ b)
            → own fits (next_block l.counts) k (a ++ b) ≡ mine → own fits f (k + length a + length b) rest ≡ others_
            → (next_block l.counts ≡ f → others_ ≡ [])
            → own fits f k (a ++ (b ++ rest)) ≡ (if z then mine else others_)
        split z e k a b rest mine others_ all first tail below =
            own_join fits f k a (b ++ rest) ∙ ap (λ z. own fits f k a ++ z) (own_join fits f (k + length a) b rest)
            ∙ assoc (own fits f k a) (own fits f (k + length a) b) (own fits f (k + length a + length b) rest)
            ∙ ap (λ z. z ++ own fits f (k + length a + length b) rest) (sym (own_join fits f k a b))
            ∙ ap (λ z. own fits f k (a ++ b) ++ z) tail ∙ go z e
          where
            assoc : (xs ys zs : List ℕ) → xs ++ (ys ++ zs) ≡ (xs ++ ys) ++ zs
            assoc [] ys zs = refl
            assoc (x ∷ xs) ys zs = ap (λ z. x ∷ z) (assoc xs ys zs)

            go : (z : Bool) → (next_block l.counts == f) ≡ z
                → own fits f k (a ++ b) ++ others_ ≡ (if z then mine else others_)
            go true e = let s = eqb-true (next_block l.counts) f e in
                ap (λ z. own fits f k (a ++ b) ++ z) (below s) ∙ append-nil (own fits f k (a ++ b))
                ∙ subst (λ z. own fits z k (a ++ b) ≡ mine) s first
            go false e = ap (λ z. z ++ others_) (own_other fits (next_block l.counts) f k (a ++ b) all e)
