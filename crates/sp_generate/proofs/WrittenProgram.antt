-- The blocks of a program, one after the other.
use Rattle.std.proofs.Common.{◌≡◌, ℕ, suc, ◌<◌, ◌≤◌, ◌+◌, List, [], ◌∷◌, ◌++◌, length, get_or, map, drop, refl, sym, ap}
use Rattle.std.proofs.Common.{◌∙◌, append_assoc, append-nil}
use Rattle.std.proofs.Common.{add-one}
use Rattle.std.proofs.lemmas.List.{drop_more, drop_all}
use Rattle.sp_tree.specs.declared.checked.Block as checked
use Rattle.sp_tree.specs.declared.checked.Checked.{Checked}
use Rattle.sp_tree.specs.CheckedOf.{block_of, program_of}
use Rattle.sp_tree.specs.PlainChecked as c
use Rattle.sp_tree.specs.Bare.{without_places, bare_block, bare_statement}
use Rattle.sp_tree.specs.Around.{scopes_of}
use Rattle.sp_tree.specs.Plain.{Program}
use Rattle.sp_code.specs.declared.code.Layout.{Layout}
use Rattle.sp_code.specs.declared.code.ForkTable.{ForkTable}
use Rattle.sp_code.specs.declared.code.Parts.{Parts}
use Rattle.sp_code.specs.declared.instr.Instr.{Instr}
use Rattle.sp_code.specs.Places.{after_block}
use Rattle.sp_code.specs.TreeCode.{code, end_instr, blocks_code, blocks_texts, texts_of, layout_of, layouts_from}
use Rattle.sp_generate.specs.CodeBuffers.{WrittenCode}
use Rattle.sp_varsets.specs.declared.sets.Sets.{Sets}
use Rattle.sp_generate.specs.Handings.{moved_of, shared_of}
use Rattle.sp_generate.specs.NumberedCode.{numbered_code}
use Rattle.sp_generate.specs.Tables.{tables, tables_blocks}
use Rattle.sp_generate.specs.CodeBuffers.{buffer_after, with_code, written_block, written_blocks}
use Rattle.sp_generate.proofs.Forms.{ended_place, forks_place, texts_place}

-- the blocks that are left, one by one
pub blocks_on : (xs ys : List checked.Block) (i : ℕ) (k : checked.Block) → ys ≡ xs → i < length ys → k ≡ get_or ys i k
    → map block_of (drop i xs) ≡ block_of k ∷ map block_of (drop (i + 1) xs)
blocks_on xs ys i k same l e =
    ap (λ zs. map block_of (drop i zs)) (sym same)
    ∙ ap (map block_of) (drop_more ys i k l ∙ ap (λ u. u ∷ drop (i + 1) ys) (sym e))
    ∙ ap (λ zs. block_of k ∷ map block_of (drop (i + 1) zs)) same

pub blocks_end : (xs ys : List checked.Block) (i : ℕ) → ys ≡ xs → length ys ≤ i → [] ≡ drop i xs
blocks_end xs ys i same l = sym (drop_all i ys l) ∙ ap (drop i) same

module _ (p : Program) (mv sh : ℕ → List ℕ) where
  pub block_is : (d : WrittenCode) (b : ℕ) (k : c.Block)
      → with_code (buffer_after p mv sh d (scopes_of p b) k.body) (end_instr b ∷ []) ≡ written_block p mv sh d b k
  unfolding buffer_after written_block
  block_is d b k = λ j. record {
    instrs = append_assoc d.instrs (code p (scopes_of p b) (length d.forks) (length d.texts) (length d.instrs)
        (bare_statement k.body)) (end_instr b ∷ []) j;
    forks = d.forks ++ tables p mv sh (length d.instrs) k.body;
    texts = d.texts ++ texts_of (bare_statement k.body);
  }

  pub blocks_none : (d : WrittenCode) (b : ℕ) → written_blocks p mv sh d b [] ≡ d
  unfolding written_blocks
  blocks_none d b = λ j. record {
    instrs = append-nil d.instrs j;
    forks = append-nil d.forks j;
    texts = append-nil d.texts j;
  }

  place : (d : WrittenCode) (b : ℕ) (k : c.Block) → length (written_block p mv sh d b k).instrs
      ≡ after_block p (length d.instrs) (bare_block k)
  unfolding written_block
  place d b k = ended_place p mv sh (scopes_of p b) d.instrs (end_instr b) (length d.forks) (length d.texts)
      (length d.instrs) (bare_statement k.body) refl

  pub block_step : (d : WrittenCode) (b : ℕ) (k : c.Block) (ks : List c.Block)
      → written_blocks p mv sh (written_block p mv sh d b k) (suc b) ks ≡ written_blocks p mv sh d b (k ∷ ks)
  unfolding written_block written_blocks
  block_step d b k ks =
      let t = length d.forks in
      let n = length d.texts in
      let q = length d.instrs in
      let body = code p (scopes_of p b) t n q (bare_statement k.body) ++ end_instr b ∷ [] in
      let et = forks_place p mv sh (scopes_of p b) d.forks q k.body in
      let en = texts_place p mv sh (scopes_of p b) d.texts (bare_statement k.body) in
      let eq = place d b k in
      λ i. record {
        instrs = (append_assoc d.instrs body
            (blocks_code p (suc b) (length (d.forks ++ tables p mv sh q k.body))
            (length (d.texts ++ texts_of (bare_statement k.body))) (length (d.instrs ++ body)) (map bare_block ks))
            ∙ (λ j. d.instrs ++ (body ++ blocks_code p (suc b) (et j) (en j) (eq j) (map bare_block ks)))) i;
        forks = (append_assoc d.forks (tables p mv sh q k.body) (tables_blocks p mv sh (length (d.instrs ++ body)) ks)
            ∙ (λ j. d.forks ++ (tables p mv sh q k.body ++ tables_blocks p mv sh (eq j) ks))) i;
        texts = append_assoc d.texts (texts_of (bare_statement k.body)) (blocks_texts (map bare_block ks)) i;
      }

  pub layout_step : (out : List Layout) (d : WrittenCode) (b : ℕ) (k : c.Block) (ks : List c.Block)
      → (out ++ layout_of p b (length d.instrs) (bare_block k) ∷ [])
      ++ layouts_from p (suc b) (length (written_block p mv sh d b k).instrs) (map bare_block ks) ≡ out
      ++ layouts_from p b (length d.instrs) (map bare_block (k ∷ ks))
  unfolding written_block
  layout_step out d b k ks =
      append_assoc out (layout_of p b (length d.instrs) (bare_block k) ∷ []) _
      ∙ (λ j. out ++ (layout_of p b (length d.instrs) (bare_block k)
      ∷ layouts_from p (suc b) (place d b k j) (map bare_block ks)))

  pub block_next : (d d2 : WrittenCode) (b n : ℕ) (k : c.Block) (ks : List c.Block) → n ≡ b
      → d2 ≡ written_block p mv sh d n k
      → written_blocks p mv sh d2 (b + 1) ks ≡ written_blocks p mv sh d b (k ∷ ks)
  block_next d d2 b n k ks en ed =
      (λ i. written_blocks p mv sh (ed i) (add-one b i) ks)
      ∙ (λ i. written_blocks p mv sh (written_block p mv sh d (en i) k) (suc b) ks) ∙ block_step d b k ks

  pub layout_next : (out out2 : List Layout) (d d2 : WrittenCode) (b n q : ℕ) (l : Layout) (k : c.Block)
      (ks : List c.Block)
      → n ≡ b → q ≡ length d.instrs → l ≡ layout_of p n q (bare_block k) → out2 ≡ out ++ l ∷ []
      → d2 ≡ written_block p mv sh d n k
      → out2 ++ layouts_from p (b + 1) (length d2.instrs) (map bare_block ks) ≡ out
      ++ layouts_from p b (length d.instrs) (map bare_block (k ∷ ks))
  layout_next out out2 d d2 b n q l k ks en eq el eo ed =
      (λ i. eo i ++ layouts_from p (add-one b i) (length (ed i).instrs) (map bare_block ks))
      ∙ (λ i. (out ++ el i ∷ []) ++ layouts_from p (suc b) (length (written_block p mv sh d n k).instrs)
      (map bare_block ks))
      ∙ (λ i. (out ++ layout_of p (en i) (eq i) (bare_block k) ∷ [])
      ++ layouts_from p (suc b) (length (written_block p mv sh d (en i) k).instrs) (map bare_block ks))
      ∙ layout_step out d b k ks

-- all blocks, where nothing stood before
pub written_program : (tree other : Checked) (sets : Sets) (d : WrittenCode) (ls : List Layout) (xs : List Instr)
    (fs : List ForkTable) (ts : List (List ℕ))
    → other ≡ tree → xs ≡ [] → fs ≡ [] → ts ≡ []
    → d ≡ written_blocks (without_places (program_of other)) (moved_of sets) (shared_of sets)
    (record { instrs = xs; forks = fs; texts = ts }) 0 (map block_of other.blocks)
    → ls ≡ layouts_from (without_places (program_of other)) 0 (length xs) (map bare_block (map block_of other.blocks))
    → let parts : Parts = record { instrs = d.instrs; layouts = ls; forks = d.forks; texts = d.texts } in
    parts ≡ numbered_code (program_of tree) sets
unfolding written_blocks
written_program tree other sets d ls xs fs ts eo ex ef et ed el =
    (λ i. record { instrs = (ed i).instrs; layouts = el i; forks = (ed i).forks; texts = (ed i).texts })
    ∙ (λ i. record {
      instrs = ex i ++ blocks_code (without_places (program_of (eo i))) 0 (length (ef i)) (length (et i))
          (length (ex i))
          (map bare_block (map block_of (eo i).blocks));
      layouts = layouts_from (without_places (program_of (eo i))) 0 (length (ex i))
          (map bare_block (map block_of (eo i).blocks));
      forks = ef i ++ tables_blocks (without_places (program_of (eo i))) (moved_of sets) (shared_of sets)
          (length (ex i))
          (map block_of (eo i).blocks);
      texts = et i ++ blocks_texts (map bare_block (map block_of (eo i).blocks));
    })
