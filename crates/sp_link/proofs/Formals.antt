-- In the code of a program the frame of each block has room for its parameters (`have_formals`).
use Rattle.std.proofs.Common.{◌≡◌, ℕ, suc, ◌+◌, ◌==◌, List, [], ◌∷◌, ◌++◌, Option, Some, None, Bool}
use Rattle.std.proofs.Common.{true, false, if◌then◌else◌, slice_get, refl, sym, ap, ◌∙◌, subst, arith}
use Rattle.std.specs.Prelude.{map}
use Rattle.std.specs.Option.{option_map}
use Rattle.std.proofs.lemmas.Option.{slice_get-map, same_Some}
use Rattle.sp_base.proofs.Facts.{get_in_front}
use Rattle.sp_tree.specs.declared.checked.Role.{Role}
use Rattle.sp_tree.specs.declared.checked.Role.TheVariants as role
use Rattle.sp_tree.specs.Cells.{variables_of, sizes, cells_by}
use Rattle.sp_tree.specs.TreeShape.{IsFormed, is_parameter, numbers_with_role, as_list}
use Rattle.sp_tree.specs.Interference.{IsMember}
use Rattle.sp_tree.specs.Plain.{Program, Stmt, Block, Variable}
use Rattle.sp_tree.proofs.Members.{member_at}
use Rattle.sp_code.specs.declared.code.Formal.{Formal}
use Rattle.sp_code.specs.declared.code.Layout.{Layout}
use Rattle.sp_code.specs.Formals.{HasRoom, BeginsWithFormals, HaveFormals}
use Rattle.sp_code.specs.TreeCode.{program_code, layouts_from, layout_of, formal_by, formal_of, cells_of}
use Rattle.sp_code.specs.Machine as m
use Rattle.sp_code.specs.Places.{after_block}
use Rattle.sp_code.specs.Scopes.{frame_of, is_local, size}
use Rattle.sp_codegen.proofs.Returns.{among_role}
use Rattle.sp_codegen.proofs.Numbers.{are_known, frame_is}

-- ---- elements of lists

module _ (p : Program) where
  -- a layout is that of a block
  record IsOf (b i : ℕ) (ks : List Block) (f : ℕ) (l : Layout) : Type 0 where
    block : Block
    at : ℕ
    number : f ≡ b + i
    stands : slice_get ks i ≡ Some block
    is : l ≡ layout_of p f at block

  found : (b q : ℕ) (ks : List Block) (f : ℕ) (l : Layout) → m.layout_of (layouts_from p b q ks) f ≡ Some l → (i : ℕ)
      × IsOf b i ks f l
  found b q [] f l e = absurd (cc e)
  found b q (k ∷ ks) f l e = go (found (suc b) (after_block p q k) ks f l) (b == f) refl e
    where
      go : (m.layout_of (layouts_from p (suc b) (after_block p q k) ks) f ≡ Some l → (i : ℕ) × IsOf (suc b) i ks f l)
          → (t : Bool) → b == f ≡ t → (if t then Some (layout_of p b q k) else
          m.layout_of (layouts_from p (suc b) (after_block p q k) ks) f) ≡ Some l → (i : ℕ) × IsOf b i (k ∷ ks) f l
      go on true t e =
          let same : b ≡ f = Prim.grind (arith, t) in (
            0,
            record {
              block = k;
              at = q;
              number = omega (arith, same);
              stands = refl;
              is = sym (same_Some _ _ e)
                  ∙ ap (λ x. layout_of p x q k) same;
            },
          )
      go on false t e =
          let z = on e in (
            suc z.0,
            record {
              block = z.1.block;
              at = z.1.at;
              number = (let n = z.1.number in omega (arith, n));
              stands = z.1.stands;
              is = z.1.is;
            },
          )

  -- the cells of a parameter hold what is passed
  passes : (r : Role) (k : ℕ) → is_parameter r ≡ true
      → HasRoom (formal_of r (size p k)) (Some (cells_by (sizes p.kinds) r k))
  passes role.Value k e = omega arith
  passes role.Reference k e = tt
  passes _ _ e = absurd (cc e)

  module _ (formed : IsFormed p) (f : ℕ) (b : Block) (eb : slice_get p.blocks f ≡ Some b) where
    room : (x : ℕ) → IsMember x b.formals → HasRoom (formal_by p (slice_get p.variables x))
        (Some (cells_of p (slice_get p.variables x)))
    room x i =
        let r = among_role p formed is_parameter x (variables_of f 0 p.variables) (are_known p formed f)
        (subst (λ y. IsMember x y) (formed.formals f b eb) i) in
        subst (λ (o : Option Variable). HasRoom (formal_by p o) (Some (cells_of p o))) (sym r.1)
        (passes r.0.role r.0.kind r.2)

    begins : (k : ℕ) (h : Formal) → slice_get (map (λ x. formal_by p (slice_get p.variables x)) b.formals) k ≡ Some h
        → HasRoom h (slice_get (map (λ x. cells_of p (slice_get p.variables x)) (frame_of p f)) k)
    begins k h e = go (slice_get b.formals k) refl
        (sym (slice_get-map (λ x. formal_by p (slice_get p.variables x)) b.formals k) ∙ e)
      where
        go : (o : Option ℕ) → slice_get b.formals k ≡ o
            → option_map (λ x. formal_by p (slice_get p.variables x)) o ≡ Some h
            → HasRoom h (slice_get (map (λ x. cells_of p (slice_get p.variables x)) (frame_of p f)) k)
        go None a e = absurd (cc e)
        go (Some x) a e =
            let whole : slice_get (frame_of p f) k ≡ Some x = ap (λ z. slice_get z k) (frame_is p formed f b eb)
            ∙ get_in_front (b.formals ++ as_list b.answer)
            (numbers_with_role is_local (variables_of f 0 p.variables)) k x
            (get_in_front b.formals (as_list b.answer) k x a) in
            let here : slice_get (map (λ x. cells_of p (slice_get p.variables x)) (frame_of p f)) k
            ≡ Some (cells_of p (slice_get p.variables x)) =
            slice_get-map (λ x. cells_of p (slice_get p.variables x)) (frame_of p f) k
            ∙ ap (λ z. option_map (λ x. cells_of p (slice_get p.variables x)) z) whole in
            subst (λ (y : Formal). HasRoom y
            (slice_get (map (λ x. cells_of p (slice_get p.variables x)) (frame_of p f)) k)) (same_Some _ _ e)
            (subst (λ y. HasRoom (formal_by p (slice_get p.variables x)) y) (sym here)
            (room x (member_at b.formals k x a)))

  pub have_formals : IsFormed p → (moves shares : Stmt → List ℕ) → HaveFormals (program_code p moves shares).layouts
  have_formals formed moves shares f l e =
      let z = found 0 0 p.blocks f l e in
      let n : f ≡ z.0 = (let w = z.1.number in omega (arith, w)) in
      let at : slice_get p.blocks f ≡ Some z.1.block = ap (λ y. slice_get p.blocks y) n ∙ z.1.stands in
      subst BeginsWithFormals (sym z.1.is) (begins formed f z.1.block at)
