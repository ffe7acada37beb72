-- A process begins where it stands: the first one, and each child of a fork.
use Rattle.std.proofs.Common.{◌≡◌, inl, inr, ℕ, zero, suc, ◌<◌, ◌==◌, List, [], ◌∷◌, length, Option, Some, None, true}
use Rattle.std.proofs.Common.{refl, sym, ap, ◌∙◌, subst, arith, Bool, if◌then◌else◌}
use Rattle.std.specs.Prelude.{slice_get, get_or}
use Rattle.std.proofs.lemmas.Option.{slice_get-get_or, same_Some}
use Rattle.std.proofs.lemmas.Bool.{eq-eqb}
use Rattle.sp_cell.specs.declared.spot.Handing.{Handing}
use Rattle.sp_code.specs.declared.code.Layout.{Layout}
use Rattle.sp_code.specs.declared.code.ChildTable.{ChildTable}
use Rattle.sp_code.specs.declared.code.Parts.{Parts}
use Rattle.sp_code.specs.Machine.{layout_of}
use Rattle.sp_code.specs.Tables.{child_at as table_child, index_of, child_by, first_index}
use Rattle.sp_code.specs.Memory.{Home, OfBlock, CodeRun, Stores, Frame, first_process, entry_of}
use Rattle.sp_code.specs.System.{with_index_frame, child_or, table_or, no_child}
use Rattle.sp_verify_rules.specs.Areas.{Area, Body, Child, homes, entry_of_layout, homes_by, with_home, parent_of}
use Rattle.sp_verify_rules.specs.Areas.{child_at, around_layout, child_of, table_at, table_named}
use Rattle.sp_verify_rules.specs.Areas.{index_of_child, entry_of_child, leads_by}
use Rattle.sp_verify_rules.specs.Reach.{IsArea, IsInCodeOf}
use Rattle.sp_verify_rules.specs.InstructionFacts.{Framed, RefersWell, ProcessAt, ProcessStands, ForksAt}
use Rattle.sp_verify_rules.specs.KeepsCodeRules.{KeepsCodeRules}
use Rattle.sp_verify_rules.proofs.Chains.{last_up}
use Rattle.sp_verify_rules.proofs.FrameScopes.{found_layout, programs, none_homes, leads_of, homes_of_block_nodes}

module _ (c : Parts) (k : KeepsCodeRules c) where
  -- the program's frame
  abbrev pub root_frame : Frame
  root_frame = record { owner = 0; number = 0; home = OfBlock 0; link = 0; references = [] }

  -- the program has no frame around its own
  pub root_framed : Framed c.layouts (homes c (Body 0)) (root_frame ∷ [])
  root_framed = subst FramesFit (sym (homes_of_block_nodes c k 0))
      (one_home (length c.layouts) (leads_of c k 0 program layout_is))
    where
      FramesFit : List Home → Type 0
      FramesFit hs = Framed c.layouts hs (root_frame ∷ [])

      program : Layout
      program = k.main.0

      layout_is : layout_of c.layouts 0 ≡ Some program
      layout_is = k.main.1

      block_is : program.block ≡ 0
      block_is = (found_layout c.layouts 0 program layout_is).0

      is_zero : (program.block == 0) ≡ true
      is_zero = eq-eqb program.block 0 block_is

      -- it has no formals
      refers : RefersWell c.layouts root_frame [] (OfBlock 0)
      refers layout found place n formal_is =
          let (_, no_formals) = programs c k 0 program layout_is is_zero in
          let formals_are : layout.formals ≡ [] =
          ap (λ (z : Layout). z.formals) (same_Some layout program (sym found ∙ layout_is)) ∙ no_formals in
          absurd (cc (sym (ap (λ z. slice_get z place) formals_are) ∙ formal_is))

      none_around : around_layout c.layouts program ≡ None
      none_around = ap (λ (t : Bool). if t then None else parent_of c.layouts program.parent) is_zero

      homes_are : (n : ℕ) → homes_by (suc n) c.layouts (layout_of c.layouts 0) ≡ OfBlock 0 ∷ []
      homes_are n = ap (λ o. homes_by (suc n) c.layouts o) layout_is
          ∙ ap (λ b. OfBlock b ∷ homes_by n c.layouts (around_layout c.layouts program)) block_is
          ∙ ap (λ o. OfBlock 0 ∷ homes_by n c.layouts o) none_around
          ∙ ap (λ hs. OfBlock 0 ∷ hs) (none_homes n c.layouts)

      one_home : (n : ℕ) → leads_by n c.layouts (layout_of c.layouts 0) ≡ true
          → FramesFit (homes_by n c.layouts (layout_of c.layouts 0))
      one_home zero leads = absurd (cc leads)
      one_home (suc n) leads = subst FramesFit (sym (homes_are n)) (refl, omega arith, refers, tt)

module _ {S : Type 0} (stores : Stores S) (g : CodeRun) (k : KeepsCodeRules g.code) where
  -- the first process stands at the first instruction of the program
  abbrev pub first_stands : ProcessStands g.code (first_process stores g)
  first_stands =
      let l = k.main in
      record {
        area = Body 0;
        shapes = [];
        callers = [];
        rest = [];
        there = (l.0, l.1);
        reached = record { steps = 0; way = (ap (entry_of stores g) l.1 ∙ sym (ap entry_of_layout l.1), refl) };
        framed = root_framed g.code k;
        operands = refl;
        under = (refl, refl);
      }

  -- a child stands at its first instruction, with its parent's frames and above them that of its index
  abbrev pub child_stands : (a : Area) (p j : ℕ) (ch : ChildTable) (fs : List Frame) (q : ℕ) (h : Handing)
      → IsArea g.code a → IsInCodeOf g.code a p → child_at g.code p j ≡ Some ch
      → Framed g.code.layouts (homes g.code a) fs
      → ProcessAt g.code ch.entry [] (with_index_frame stores g q h ch.index fs)
  child_stands a p j ch fs q h is_area in_code child_is framed = record {
    area = Child a p j;
    shapes = [];
    callers = [];
    rest = [];
    there = (is_area, in_code, (ch, child_is));
    reached = record { steps = 0; way = (sym (ap entry_of_child child_is), refl) };
    framed = subst (λ o. Framed g.code.layouts (with_home o (homes g.code a))
        (with_index_frame stores g q h ch.index fs)) (sym (ap index_of_child child_is)) (with_index ch.index);
    operands = refl;
    under = (refl, tt);
  }
    where
      with_index : (o : Option ℕ) → Framed g.code.layouts (with_home o (homes g.code a))
          (with_index_frame stores g q h o fs)
      with_index None = framed
      with_index (Some x) = (
        refl,
        omega arith,
        tt,
        subst (λ gs. Framed g.code.layouts (homes g.code a) gs) (sym (last_up 0 fs)) framed,
      )

  -- child j of a fork or forall has this number among the children of the instruction at p, and begins with this table
  pub record CodeChild (p t j : ℕ) : Type 0 where
    pub number : ℕ
    pub table : ChildTable
    pub table_is : child_at g.code p number ≡ Some table
    pub begins : child_or (table_child (table_or (slice_get g.code.forks t)) j) ≡ table

  -- of a fork it is child j, and of a forall it is the only one
  pub code_child : (p t n j : ℕ) → ForksAt g.code p t n → j < n → CodeChild p t j
  code_child p t n j (inl (tb, is_fork, tb_there, count_is)) lt = record {
    number = j;
    table = child;
    table_is = ap (λ o. child_of (table_at g.code.forks (table_named o)) j) is_fork
        ∙ (ap (λ o. child_of o j) tb_there ∙ child_there);
    begins = ap (λ o. child_or (table_child (table_or o) j)) tb_there
        ∙ (ap (λ o. child_or (child_by tb.children o j)) no_index ∙ ap child_or child_there);
  }
    where
      child : ChildTable
      child = get_or tb.children j no_child

      child_there : slice_get tb.children j ≡ Some child
      child_there = slice_get-get_or tb.children j no_child (omega (arith, lt, count_is))

      -- no child of a fork has an index, so the first one has none
      first_has_none : (cs : List ChildTable) → ((ch : ChildTable) → slice_get cs 0 ≡ Some ch → ch.index ≡ None)
          → first_index cs ≡ None
      first_has_none [] none = refl
      first_has_none (ch ∷ cs) none = none ch refl

      no_index : index_of tb ≡ None
      no_index = first_has_none tb.children
          (λ ch s. k.forks p t 0 ch is_fork (ap (λ o. child_of o 0) tb_there ∙ s))
  code_child p t n j (inr is_forall) lt =
      let (_, child, _, tb_there, children_are, index_is) = k.foralls p t is_forall in
      record {
        number = 0;
        table = child;
        table_is = ap (λ o. child_of (table_at g.code.forks (table_named o)) 0) is_forall
            ∙ (ap (λ o. child_of o 0) tb_there ∙ ap (λ cs. slice_get cs 0) children_are);
        begins = ap (λ o. child_or (table_child (table_or o) j)) tb_there
            ∙ (ap (λ cs. child_or (child_by cs (first_index cs) j)) children_are
            ∙ ap (λ o. child_or (child_by (child ∷ []) o j)) index_is);
      }
