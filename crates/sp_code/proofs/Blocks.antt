-- The code of a program has exactly the tree's length, and all its blocks stand in it.
use Rattle.std.proofs.Common.{ap, Bool, ◌∙◌, ◌≡◌, ℕ, zero, suc, ◌+◌, List, [], ◌∷◌, ◌++◌, length, Some, refl}
use Rattle.std.proofs.Common.{sym, subst, arith}
use Rattle.std.proofs.Common.{zero-add}
use Rattle.std.specs.Prelude.{slice_get, ◌≢◌, if◌then◌else◌}
use Rattle.std.proofs.lemmas.Option.{same_Some}
use Rattle.sp_base.proofs.Facts.{next_goes_left}
use Rattle.sp_cell.proofs.FrameLaws.{is_same, is_other}
use Rattle.sp_code.specs.Machine as m
use Rattle.sp_code.specs.Sound.{HasDistinctBlocks}
use Rattle.sp_tree.specs.Plain.{Program, Block, Stmt}
use Rattle.sp_code.specs.declared.instr.Instr.{Instr}
use Rattle.sp_code.specs.declared.code.Layout.{Layout}
use Rattle.sp_code.specs.declared.code.ForkTable.{ForkTable}
use Rattle.sp_code.specs.declared.code.Parts.{Parts}
use Rattle.sp_code.specs.Scopes.{scopes_of}
use Rattle.sp_code.specs.Places.{after_statement, after_block, tree_length}
use Rattle.sp_code.specs.Lengths.{stmt_length}
use Rattle.sp_code.specs.TreeCode.{tables_in, texts_in, texts_of, end_instr, code, tables, block_code, blocks_code}
use Rattle.sp_code.specs.TreeCode.{blocks_texts, layout_of, layouts_from, blocks_tables, program_code}
use Rattle.sp_code.specs.CodeOfTree.{HasAt, BlockAt, BlocksAt, IsSoundBlock}
use Rattle.sp_code.proofs.Counts.{last_count, blocks_count, code_count, stmt_after, tree_after}
use Rattle.sp_code.proofs.CodePositions.{has_front, has_back, stands, code_stop, tables_stop, texts_stop}

-- a list stands in itself
has_shift : {X : Type 0} (x : X) (xs ys : List X) (q : ℕ) → HasAt xs q ys → HasAt (x ∷ xs) (q + 1) ys
has_shift x xs [] q h = tt
has_shift x xs (y ∷ ys) q h = let e : suc q ≡ q + 1 = omega arith in
    (subst (λ (n : ℕ). slice_get (x ∷ xs) n ≡ Some y) e h.0, has_shift x xs ys (q + 1) h.1)

pub has_self : {X : Type 0} (xs : List X) → HasAt xs 0 xs
has_self [] = tt
has_self (x ∷ xs) = (refl, has_shift x xs xs 0 (has_self xs))

-- ---- layouts

module _ (p : Program) where
  -- the layout at a place is of the block of that number
  block_at : (b q : ℕ) (ks : List Block) (f : ℕ) (l : Layout) → slice_get (layouts_from p b q ks) f ≡ Some l
      → l.block ≡ b + f
  block_at b q [] f l e = absurd cc
  block_at b q (k ∷ ks) zero l e = let w : b ≡ l.block =
      ap (λ (x : Layout). x.block) (same_Some (layout_of p b q k) l e) in omega (arith, w)
  block_at b q (k ∷ ks) (suc f) l e = omega (arith, block_at (suc b) (after_block p q k) ks f l e)

  pub distinct_blocks : (b q : ℕ) (ks : List Block) → HasDistinctBlocks (layouts_from p b q ks)
  distinct_blocks b q ks i j l m h k e = omega (arith, block_at b q ks i l h, block_at b q ks j m k, e)

  found_from : (b q : ℕ) (ks : List Block) (f : ℕ) (l : Layout) → slice_get (layouts_from p b q ks) f ≡ Some l
      → m.layout_of (layouts_from p b q ks) (b + f) ≡ Some l
  found_from b q [] f l e = absurd cc
  found_from b q (k ∷ ks) zero l e =
      let w : b ≡ b + 0 = omega arith in
      ap (λ (t : Bool). if t then Some (layout_of p b q k) else
      m.layout_of (layouts_from p (suc b) (after_block p q k) ks) (b + 0)) (is_same b (b + 0) w) ∙ e
  found_from b q (k ∷ ks) (suc f) l e =
      let w : b ≢ b + suc f = λ x. omega (arith, x) in
      let z : suc b + f ≡ b + suc f = omega arith in
      ap (λ (t : Bool). if t then Some (layout_of p b q k) else
      m.layout_of (layouts_from p (suc b) (after_block p q k) ks) (b + suc f)) (is_other b (b + suc f) w)
      ∙ ap (λ (n : ℕ). m.layout_of (layouts_from p (suc b) (after_block p q k) ks) n) (sym z)
      ∙ found_from (suc b) (after_block p q k) ks f l e

  -- the layout of a block is found under its number
  pub layout_found : (f : ℕ) (l : Layout) → slice_get (layouts_from p 0 0 p.blocks) f ≡ Some l
      → m.layout_of (layouts_from p 0 0 p.blocks) f ≡ Some l
  layout_found f l e = let w : 0 + f ≡ f = omega arith in
      ap (λ (n : ℕ). m.layout_of (layouts_from p 0 0 p.blocks) n) (sym w) ∙ found_from 0 0 p.blocks f l e

module _ (p : Program) (moves shares : Stmt → List ℕ) where
  pub program_count : length (program_code p moves shares).instrs ≡ tree_length p
  program_count = blocks_count p 0 0 0 0 p.blocks ∙ sym (tree_after p)

  module _ (all : Parts) (callable : ℕ → Type 0) where
    -- the block that stands first
    first_stands : (b t n q : ℕ) (k : Block) (more : List Instr) (tables_more : List ForkTable)
        (texts_more : List (List ℕ)) → IsSoundBlock p moves shares callable b q k
        → slice_get all.layouts b ≡ Some (layout_of p b q k)
        → HasAt all.instrs q (block_code p b t n q k ++ more)
        → HasAt all.forks t (tables p moves shares q k.body ++ tables_more)
        → HasAt all.texts n (texts_of k.body ++ texts_more) → BlockAt p moves shares all callable b k
    first_stands b t n q k more tables_more texts_more f l h a w =
        let body = has_front all.instrs q (block_code p b t n q k) more h in
        record {
          layout = layout_of p b q k;
          layout_at = l;
          layout_is = refl;
          stands = record {
            body = λ free is_callable. stands p moves shares all callable free (scopes_of p b) t n q k.body
                (f.body free is_callable)
                (has_front all.instrs q (code p (scopes_of p b) t n q k.body) _ body)
                (has_front all.forks t (tables p moves shares q k.body) tables_more a)
                (has_front all.texts n (texts_of k.body) texts_more w);
            end = (has_back all.instrs q (after_statement p q k.body) (code p (scopes_of p b) t n q k.body) _
                (code_stop p moves shares all callable (scopes_of p b) t n q k.body) body).0;
            callable_function = f.callable_function;
            answer = f.answer;
          };
        }

    block_stop : (b t n q : ℕ) (k : Block) → q + length (block_code p b t n q k) ≡ after_block p q k
    block_stop b t n q k =
        omega (
          arith,
          last_count (code p (scopes_of p b) t n q k.body) (end_instr b) (stmt_length p k.body)
              (code_count p (scopes_of p b) t n q k.body),
          stmt_after p q k.body,
        )

    blocks_stand_from : (b t n q : ℕ) (ks : List Block)
        → ((f r : ℕ) (k : Block) → slice_get ks f ≡ Some k → IsSoundBlock p moves shares callable (b + f) r k)
        → HasAt all.layouts b (layouts_from p b q ks) → HasAt all.instrs q (blocks_code p b t n q ks)
        → HasAt all.forks t (blocks_tables p moves shares q ks) → HasAt all.texts n (blocks_texts ks)
        → (f : ℕ) (k : Block) → slice_get ks f ≡ Some k → BlockAt p moves shares all callable (b + f) k
    blocks_stand_from b t n q [] fine l h a w f k e = absurd cc
    blocks_stand_from b t n q (j ∷ ks) fine l h a w zero k e =
        let z : b + 0 ≡ b = omega arith in
        let same : j ≡ k = cc in
        subst (λ (x : ℕ). BlockAt p moves shares all callable x k) (sym z)
        (subst (λ (x : Block). BlockAt p moves shares all callable b x) same
        (first_stands b t n q j _ _ _
        (subst (λ (x : ℕ). IsSoundBlock p moves shares callable x q j) z (fine 0 q j refl)) l.0 h a
        w))
    blocks_stand_from b t n q (j ∷ ks) fine l h a w (suc f) k e =
        let z : suc b + f ≡ b + suc f = omega arith in
        let y : b + 1 ≡ suc b = omega arith in
        subst (λ (x : ℕ). BlockAt p moves shares all callable x k) z
        (blocks_stand_from (suc b) (t + tables_in j.body) (n + texts_in j.body) (after_block p q j) ks
        (λ g r i d. subst (λ (x : ℕ). IsSoundBlock p moves shares callable x r i) (next_goes_left b g)
        (fine (suc g) r i d))
        (subst (λ (x : ℕ). HasAt all.layouts x (layouts_from p (suc b) (after_block p q j) ks)) y l.1)
        (has_back all.instrs q (after_block p q j) (block_code p b t n q j) _ (block_stop b t n q j) h)
        (has_back all.forks t _ (tables p moves shares q j.body) _
        (tables_stop p moves shares all callable t q j.body) a)
        (has_back all.texts n _ (texts_of j.body) _ (texts_stop p moves shares all callable n j.body) w) f k e)

  -- in its own code
  pub blocks_stand : (callable : ℕ → Type 0) → ((f q : ℕ) (b : Block) → slice_get p.blocks f ≡ Some b
      → IsSoundBlock p moves shares callable f q b) → BlocksAt p moves shares (program_code p moves shares) callable
  blocks_stand callable fine f b e =
      let all = program_code p moves shares in
      let none : 0 + f ≡ f = omega arith in
      subst (λ (x : ℕ). BlockAt p moves shares all callable x b) none
      (blocks_stand_from all callable 0 0 0 0 p.blocks
      (λ g r k d. subst (λ (x : ℕ). IsSoundBlock p moves shares callable x r k) (sym (zero-add g)) (fine g r k d))
      (has_self all.layouts) (has_self all.instrs) (has_self all.forks) (has_self all.texts) f b e)
