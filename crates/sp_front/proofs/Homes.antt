-- What a program declares is of blocks that there are; the input and the output are the only consoles.
use Rattle.std.proofs.Common.{◌≡◌, ap, sym, ◌∙◌, subst, ℕ, zero, suc, ◌+◌, ◌≤◌, List, [], ◌∷◌, ◌++◌, Option, Some, None}
use Rattle.std.proofs.Common.{Bool, true, false, length, slice_get, arith}
use Rattle.std.specs.Prelude.{◌<◌}
use Rattle.std.proofs.lemmas.List.{length-append}
use Rattle.std.proofs.lemmas.Option.{same_Some}
use Rattle.sp_tree.specs.declared.checked.Role.TheVariants as role
use Rattle.sp_tree.specs.declared.checked.Variable as checked
use Rattle.sp_tree.specs.declared.syntax.Name.{Name}
use Rattle.sp_tree.specs.declared.syntax.SynFormal.{SynFormal}
use Rattle.sp_tree.specs.NameFirst.{both_lists, all_at, broken_name_rules}
use Rattle.sp_tree.specs.Scopes as names
use Rattle.sp_tree.specs.Scopes.{Env, Local, find, inner_env, empty_local, standard_scope, next_block}
use Rattle.sp_tree.specs.NameWalk as w
use Rattle.sp_tree.specs.NameWalk.{role_of, title_local, heading_local, parts_local, part_local, blocks_around}
use Rattle.sp_tree.specs.NamedTree.{kind_number, formals_named, answer_named, parts_named, part_named, indices}
use Rattle.sp_tree.specs.PlainNamed as n
use Rattle.sp_tree.specs.Plain as plain
use Rattle.sp_tree.specs.PlainSyntax as syntax
use Rattle.sp_tree.specs.PlainSyntax.{Statement}
use Rattle.sp_tree.specs.PlainSyntax.{Part, Const, Kind, Var}
use Rattle.sp_tree.specs.PlainSyntax.{Proc, Parts, NoPart, Declare}
use Rattle.sp_types.specs.Tables.{env_of}
use Rattle.sp_types.specs.TypeWalk.{starts_of, blocks_after}
use Rattle.sp_front.specs.RealBlocks.{NoConsole, AreInRealBlocks}
use Rattle.sp_front.specs.PartsInTables.{HoldsBlocks}
use Rattle.sp_front.proofs.NoBreachInParts.{none_in_parts}
use Rattle.sp_front.proofs.Variables.{each_join, names_each, formals_each, answer_each, indices_each}
use Rattle.sp_front.proofs.DeclarationNumbers.{part_moves}
use Rattle.sp_front.proofs.Blocks.{part_block, none_in_pieces, head_blocks, head_number}
use Rattle.sp_front.proofs.TablesKnow.{variable_from}
use Rattle.sp_front.proofs.Program.{named, tree, held_blocks}

homed_join : (b : ℕ) (us vs : List checked.Variable) → AreInRealBlocks b us → AreInRealBlocks b vs
    → AreInRealBlocks b (us ++ vs)
homed_join b us vs h k = each_join (λ (u : checked.Variable). (suc u.block ≤ b) × NoConsole u.role) us vs h k

homed_at : (b : ℕ) (us : List checked.Variable) (x : ℕ) (u : checked.Variable) → AreInRealBlocks b us
    → slice_get us x ≡ Some u
    → (suc u.block ≤ b) × NoConsole u.role
homed_at b [] x u h e = absurd (cc e)
homed_at b (w ∷ us) zero u h e = subst (λ (z : checked.Variable). (suc z.block ≤ b) × NoConsole z.role)
    (same_Some w u e) h.0
homed_at b (w ∷ us) (suc x) u h e = homed_at b us x u h.1 e

-- so many blocks there are
module _ (b : ℕ) where
  abbrev IsHomed : checked.Variable → Type 0
  IsHomed u = (suc u.block ≤ b) × NoConsole u.role

  formals_homed : (env : Env) (block : ℕ) (fs : List SynFormal) → suc block ≤ b
      → AreInRealBlocks b (formals_named env block fs)
  formals_homed env block fs l = formals_each IsHomed block env fs (λ x k r. (l, no_console r))
    where
      no_console : (r : Bool) → NoConsole (role_of r)
      no_console true = tt
      no_console false = tt

  answer_homed : (env : Env) (block : ℕ) (x : Name) (answer : Option Name) → suc block ≤ b
      → AreInRealBlocks b (answer_named env block x answer)
  answer_homed env block x answer l = answer_each IsHomed block env x answer (λ k. (l, tt))

  indices_homed : (block : ℕ) → suc block ≤ b → (s : Statement) → AreInRealBlocks b (indices block s)
  indices_homed block l s = indices_each IsHomed block (λ x. (l, tt)) s

  mutual
    parts_homed : (around : List names.Scope) (l : Local) (ps : Parts)
        → w.parts_sites [] both_lists all_at around l ps ≡ [] → suc l.block ≤ b
        → next_block l.counts + length (parts_named around l ps).blocks ≤ b
        → AreInRealBlocks b (parts_named around l ps).variables
    parts_homed around l NoPart calm low room = tt
    parts_homed around l (Declare q rest) calm low room =
        let next = part_local l q in
        let two = none_in_parts (w.part_sites [] both_lists all_at around l q)
        (w.parts_sites [] both_lists all_at around next rest) calm in
        let one = part_named around l q in
        let others = parts_named around next rest in
        let moved = (part_moves around l q two.0).blocks_are in
        let space : next_block l.counts + length (one.blocks ++ others.blocks) ≤ b = room in
        let sum = length-append one.blocks others.blocks in
        homed_join b one.variables others.variables (part_homed around l q two.0 low (omega (arith, space, sum)))
        (parts_homed around next rest two.1 (subst (λ z. suc z ≤ b) (sym (part_block l q)) low)
        (omega (arith, space, sum, moved)))

    part_homed : (around : List names.Scope) (l : Local) (q : Part) → w.part_sites [] both_lists all_at around l q ≡ []
        → suc l.block ≤ b → next_block l.counts + length (part_named around l q).blocks ≤ b
        → AreInRealBlocks b (part_named around l q).variables
    part_homed around l (Const x c) calm low room = tt
    part_homed around l (Kind x k) calm low room = tt
    part_homed around l (Var xs t) calm low room =
        names_each IsHomed l.block role.Local (kind_number (find (inner_env around l) t.text)) xs (λ x. (low, tt))
    part_homed around l (Proc x fs answer parts body) calm low room =
        let f = next_block l.counts in
        let env = inner_env around l in
        let in_ = blocks_around around (title_local l x fs answer) in
        let head = heading_local l x fs answer in
        let inner = parts_named in_ head parts in
        let pieces = none_in_pieces around l x fs answer parts body calm in
        let up = head_blocks around l x fs answer parts body calm in
        let number = head_number around l x fs answer parts body calm in
        let space : f + suc (length inner.blocks) ≤ b = room in
        let own : suc f ≤ b = omega (arith, space) in
        homed_join b (formals_named env f fs)
        (answer_named env f x answer ++ (inner.variables ++ indices head.block body)) (formals_homed env f fs own)
        (homed_join b (answer_named env f x answer) (inner.variables ++ indices head.block body)
        (answer_homed env f x answer own)
        (homed_join b inner.variables (indices head.block body)
        (parts_homed in_ head parts pieces.2 (subst (λ z. suc z ≤ b) (sym number) own) (omega (arith, space, up)))
        (indices_homed head.block (subst (λ z. suc z ≤ b) (sym number) own) body)))

module _ (s : syntax.Program) (calm : broken_name_rules s ≡ []) where
  abbrev body_ : Statement
  body_ = s.block.body

  abbrev inner_ : n.Program
  inner_ = parts_named (standard_scope ∷ []) empty_local s.block.parts

  rest_homed : AreInRealBlocks (suc (length inner_.blocks)) (inner_.variables ++ indices 0 body_)
  rest_homed =
      let std = standard_scope ∷ [] in
      let parts = w.parts_sites [] both_lists all_at std empty_local s.block.parts in
      let body = w.statement_sites [] both_lists all_at std (parts_local empty_local s.block.parts) body_ in
      let two = none_in_parts parts body (none_in_parts (w.files_sites [] both_lists all_at [] s.heading)
      (both_lists parts body)
      calm).1 in
      homed_join (suc (length inner_.blocks)) inner_.variables (indices 0 body_)
      (parts_homed (suc (length inner_.blocks)) std empty_local s.block.parts two.0 (omega arith) (omega arith))
      (indices_homed (suc (length inner_.blocks)) 0 (omega arith) body_)

  -- a variable of the tree with numbers for names
  role_home : (x : ℕ) (u : checked.Variable) → slice_get (named s calm).variables x ≡ Some u
      → (suc u.block ≤ suc (length inner_.blocks)) × (u.role ≡ role.Console → (u.block ≡ 0) × (suc x ≤ 2))
  role_home zero u e = (
    subst (λ (z : checked.Variable). suc z.block ≤ suc (length inner_.blocks)) (same_Some _ _ e)
        (omega arith),
    λ c. (ap (λ (z : checked.Variable). z.block) (sym (same_Some _ _ e)), omega arith),
  )
  role_home (suc zero) u e = (
    subst (λ (z : checked.Variable). suc z.block ≤ suc (length inner_.blocks))
        (same_Some _ _ e) (omega arith),
    λ c. (
      ap (λ (z : checked.Variable). z.block) (sym (same_Some _ _ e)),
      omega arith,
    ),
  )
  role_home (suc (suc x)) u e = let h = homed_at (suc (length inner_.blocks)) (inner_.variables ++ indices 0 body_) x u
      rest_homed e in (h.0, λ c. absurd (subst NoConsole c h.1))

  block_there : (k : ℕ) (bs : List n.Block) (j : ℕ) → HoldsBlocks (tree s calm) (length (named s calm).constants) k bs
      → suc j ≤ length bs → (b : plain.Block) × (slice_get (tree s calm).blocks (k + j) ≡ Some b)
  block_there k [] j h l = absurd (omega (arith, l))
  block_there k (b ∷ bs) zero ((c, c_at, _, _, _), _) l = (
    c,
    subst (λ z. slice_get (tree s calm).blocks z ≡ Some c)
        (let z : k ≡ k + 0 = omega arith in z) c_at,
  )
  block_there k (b ∷ bs) (suc j) h l = let r = block_there (suc k) bs j h.1 (omega (arith, l)) in (
    r.0,
    subst (λ z. slice_get (tree s calm).blocks z ≡ Some r.0) (let z : suc k + j ≡ k + suc j = omega arith in z)
        r.1,
  )

  abbrev last : List (Option ℕ)
  last = (blocks_after (env_of (named s calm)) (starts_of (named s calm).blocks) (named s calm).blocks).variables

  pub homes : (x : ℕ) (v : plain.Variable) → slice_get (tree s calm).variables x ≡ Some v → (b : plain.Block)
      × (slice_get (tree s calm).blocks v.block ≡ Some b)
  homes x v at =
      let (u, u_at, _, block_is) = variable_from last (named s calm).variables x v at in
      let h = (role_home x u u_at).0 in
      let b = block_there 0 (named s calm).blocks u.block (held_blocks s calm) h in (
        b.0,
        subst (λ z. slice_get (tree s calm).blocks z ≡ Some b.0)
            (let z : 0 + u.block ≡ u.block = omega arith in z ∙ sym block_is) b.1,
      )

  pub consoles : (x : ℕ) (v : plain.Variable) → slice_get (tree s calm).variables x ≡ Some v → v.role ≡ role.Console
      → (v.block ≡ 0) × (x < 2)
  consoles x v at e =
      let (u, u_at, role_is, block_is) = variable_from last (named s calm).variables x v at in
      let h = (role_home x u u_at).1 (sym role_is ∙ e) in
      (block_is ∙ h.0, h.1)

  -- the program's block stands in none, and has no parameters and no result
  pub program_block : (b : plain.Block) → slice_get (tree s calm).blocks 0 ≡ Some b → (b.parent ≡ None)
      × (b.formals ≡ []) × (b.answer ≡ None)
  program_block b at =
      let ((c, c_at, parent_is, formals_are, answer_is), _) = held_blocks s calm in
      let e = same_Some c b (sym c_at ∙ at) in (
        ap (λ (z : plain.Block). z.parent) (sym e) ∙ parent_is,
        ap (λ (z : plain.Block). z.formals) (sym e) ∙ formals_are,
        ap (λ (z : plain.Block). z.answer) (sym e) ∙ answer_is,
      )
