-- For each rule of interference a program that breaks it, with the place, by computing. Beside it stands the nearest
-- program that breaks no rule of interference at all. Above each stands its text, by whose columns the places are.
use Rattle.std.proofs.Common.{◌≡◌, inl, inr, ℕ, zero, suc, List, [], ◌∷◌, Some, None, refl, sym, subst, ap, ◌∙◌, arith}
use Rattle.std.specs.Prelude.{◌+◌, pos, false, slice_get, codes}
use Rattle.sp_base.specs.declared.place.Place.{Place}
use Rattle.sp_base.specs.declared.rule.Rule.TheVariants as rule
use Rattle.sp_tree.specs.declared.checked.KindOf.TheVariants as kind
use Rattle.sp_tree.specs.declared.checked.Role.{Role}
use Rattle.sp_tree.specs.declared.checked.Role.TheVariants as role
use Rattle.sp_tree.specs.declared.checked.Variable.{Variable}
use Rattle.sp_tree.specs.declared.operators.BinaryOp.TheVariants as op
use Rattle.sp_tree.specs.PlainChecked.{Expression, ExpressionAt, Number, Read, Binary, Apply, Variable as Var, Entire}
use Rattle.sp_tree.specs.PlainChecked.{Whole}
use Rattle.sp_tree.specs.PlainChecked.{Select, Index, Actuals, Nothing, Pass, ByReference, Statement, Does, Empty}
use Rattle.sp_tree.specs.PlainChecked.{Assign, Call, Sequence, For, Parallel, Forall, Assume, WriteLine, Open}
use Rattle.sp_tree.specs.PlainChecked.{Statements, NoStatement, AndThen, Block, Program}
use Rattle.sp_tree.specs.Plain as plain
use Rattle.sp_tree.specs.Bare.{without_places, bare_block}
use Rattle.sp_tree.specs.Sets.{IsBelow, IsFree}
use Rattle.sp_tree.specs.Sites.{SplitsAt, SpreadsAt, LoopsAt, CallsAt, StopsAt}
use Rattle.sp_tree.specs.Interferes.{Interferes}
use Rattle.sp_tree.proofs.SetCertificates.{Claim}
use Rattle.sp_tree.proofs.Unbroken.{BreaksNone, breaks_none}

abbrev place : ℕ → Place
place c = record { line = 1; column = c }

abbrev num : ℕ → ℕ → Expression
num c n = ExpressionAt (place c) 0 (Number (pos n))

abbrev var : ℕ → ℕ → Var
var c x = Entire x (place c) Whole

abbrev get : ℕ → ℕ → Expression
get c x = ExpressionAt (place c) 0 (Read (var c x))

abbrev assign : ℕ → ℕ → ℕ → Expression → Statement
assign n c x e = Does n (place c) (Assign (var c x) e)

abbrev one : Statement → Statements
one s = AndThen s NoStatement

abbrev two : Statement → Statement → Statements
two s t = AndThen s (one t)

abbrev compound : ℕ → Statements → Statement
compound c ss = Does 1 (place c) (Sequence ss)

abbrev nothing_done : ℕ → Statement
nothing_done c = compound c (one (Does 2 (place c) Empty))

abbrev declared : List ℕ → ℕ → ℕ → Role → ℕ → Variable
declared x k b r c = record { name = x; kind = k; block = b; role = r; at = place c }

abbrev with_consoles : List Variable → List Variable
with_consoles xs = declared (codes "input") 0 0 role.Console 9 ∷ declared (codes "output") 0 0 role.Console 9 ∷ xs

abbrev the_program : Statement → Block
the_program s = record { name = codes "e"; parent = None; formals = []; answer = None; body = s; at = place 9 }

abbrev procedure : List ℕ → ℕ → List ℕ → Statement → Block
procedure x c formals s = record { name = x; parent = Some 0; formals = formals; answer = None; body = s; at = place c }

abbrev function : List ℕ → ℕ → List ℕ → ℕ → Statement → Block
function x c formals y s = record {
  name = x;
  parent = Some 0;
  formals = formals;
  answer = Some y;
  body = s;
  at = place c;
}

abbrev integers : List Variable → List Block → Program
integers xs bs = record { kinds = kind.Integer ∷ []; variables = with_consoles xs; blocks = bs }

abbrev claim : List ℕ → List ℕ → Claim
claim targets seen = record { targets = targets; seen = seen }

-- a variable of the program's block is free in every other block
free : (g : plain.Program) (b x : ℕ) (i : plain.Variable) (k : plain.Block) → slice_get g.variables x ≡ Some i
    → i.block ≡ 0 → slice_get g.blocks 0 ≡ Some k → k.parent ≡ None → IsFree g (suc b) x
free g b x i k e z at top j f n below = go n
    (subst (λ y. IsBelow g n y (suc b)) (ap (λ (y : plain.Variable). y.block) same ∙ z) below)
  where
    same : j ≡ i
    same = cc (e, f)

    go : (n : ℕ) → IsBelow g n 0 (suc b) → ⊥
    go zero h = absurd (omega (arith, h))
    go (suc n) (m, is, q, p, rest) =
        let first : m ≡ k = cc (at, is) in
        let none : None ≡ Some q = sym top ∙ ap (λ (y : plain.Block). y.parent) (sym first) ∙ p in
        cc none

-- I1: program e; begin parallel writeln | writeln end end.
abbrev lines : Statements
lines = two (Does 3 (place 27) WriteLine) (Does 4 (place 37) WriteLine)

abbrev two_lines : Program
two_lines = integers [] (the_program (compound 12 (one (Does 2 (place 18) (Parallel lines)))) ∷ [])

pub I1_broken : Interferes two_lines rule.I1 (place 37)
I1_broken = (
  0,
  the_program (compound 12 (one (Does 2 (place 18) (Parallel lines)))),
  refl,
  SplitsAt lines,
  inl refl,
  inl (inl (refl, (1, inl (([], inl refl), inl ([], inl refl))))),
)

-- program e; var x: integer; begin parallel writeln | x := 1 end end.
abbrev line_and_variable : Program
line_and_variable = integers (declared (codes "x") 0 0 role.Local 16 ∷ [])
    (the_program (compound 28 (one (Does 2 (place 34)
    (Parallel (two (Does 3 (place 43) WriteLine) (assign 4 53 2 (num 58 1))))))) ∷ [])

pub I1_kept : BreaksNone line_and_variable
I1_kept = breaks_none line_and_variable [] (0 ∷ []) refl

-- I2: program e; var x: integer; begin forall i := 1 to 3 do x := i end.
abbrev each_assigns : Statement
each_assigns = compound 28 (one (Does 2 (place 34) (Forall 3 (num 46 1) (num 51 3) (assign 3 56 2 (get 61 3)))))

abbrev with_index : List Variable
with_index = declared (codes "x") 0 0 role.Local 16 ∷ declared (codes "i") 0 0 role.Index 41 ∷ []

pub I2_broken : Interferes (integers with_index (the_program each_assigns ∷ [])) rule.I2 (place 34)
I2_broken = (
  0,
  the_program each_assigns,
  refl,
  SpreadsAt (place 34) 3 (assign 3 56 2 (get 61 3)),
  inl refl,
  (refl, 2, ([], inl (inl refl))),
)

-- program e; var x: integer; begin forall i := 1 to 3 do assume i = x end.
abbrev each_assumes : Program
each_assumes = integers with_index (the_program
    (compound 28 (one (Does 2 (place 34) (Forall 3 (num 46 1) (num 51 3)
    (Does 3 (place 56) (Assume (ExpressionAt (place 63) 0 (Binary op.Eq (get 63 3) (get 67 2))))))))) ∷ [])

pub I2_kept : BreaksNone each_assumes
I2_kept = breaks_none each_assumes [] (0 ∷ []) refl

-- I3: program e; var i: integer; begin for i := 1 to 2 do i := 1 end.
abbrev counts_back : Statement
counts_back = compound 28 (one (Does 2 (place 34)
    (For 2 (place 38) (num 43 1) false (num 48 2) (assign 3 53 2 (num 58 1)))))

pub I3_broken : Interferes (integers (declared (codes "i") 0 0 role.Local 16 ∷ []) (the_program counts_back ∷ []))
    rule.I3 (place 38)
I3_broken = (
  0,
  the_program counts_back,
  refl,
  LoopsAt 2 (place 38) (assign 3 53 2 (num 58 1)),
  inl refl,
  (refl, ([], inl (inl refl))),
)

-- program e; var i, j: integer; begin for i := 1 to 2 do j := i end.
abbrev counts_along : Program
counts_along = integers (declared (codes "i") 0 0 role.Local 16 ∷ declared (codes "j") 0 0 role.Local 19 ∷ [])
    (the_program (compound 31 (one (Does 2 (place 37)
    (For 2 (place 41) (num 46 1) false (num 51 2) (assign 3 56 3 (get 61 2)))))) ∷ [])

pub I3_kept : BreaksNone counts_along
I3_kept = breaks_none counts_along [] [] refl

-- I4: program e; var a: integer; procedure p(var u, v: integer); begin end; begin p(a, a) end.
abbrev twice : Actuals
twice = Pass (ByReference (var 79 2)) (Pass (ByReference (var 82 2)) Nothing)

abbrev passes_twice : Program
passes_twice = integers (declared (codes "a") 0 0 role.Local 16 ∷ declared (codes "u") 0 1 role.Reference 44
    ∷ declared (codes "v") 0 1 role.Reference 47 ∷ [])
    (the_program (compound 71 (one (Does 2 (place 77) (Call 1 twice))))
    ∷ procedure (codes "p") 38 (3 ∷ 4 ∷ []) (nothing_done 60) ∷ [])

pub I4_broken : Interferes passes_twice rule.I4 (place 82)
I4_broken = (
  0,
  the_program (compound 71 (one (Does 2 (place 77) (Call 1 twice)))),
  refl,
  CallsAt 1 (place 77) twice,
  inl refl,
  inl (inl (refl, refl)),
)

-- program e; var a, b: integer; procedure p(var u, v: integer); begin end; begin p(a, b) end.
abbrev passes_two : Program
passes_two = integers (declared (codes "a") 0 0 role.Local 16 ∷ declared (codes "b") 0 0 role.Local 19
    ∷ declared (codes "u") 0 1 role.Reference 47 ∷ declared (codes "v") 0 1 role.Reference 50 ∷ [])
    (the_program (compound 74 (one (Does 2 (place 80)
    (Call 1 (Pass (ByReference (var 82 2)) (Pass (ByReference (var 85 3)) Nothing))))))
    ∷ procedure (codes "p") 41 (4 ∷ 5 ∷ []) (nothing_done 63) ∷ [])

pub I4_kept : BreaksNone passes_two
I4_kept = breaks_none passes_two [] [] refl

-- I5: program e; var a: integer; procedure p(var u: integer); begin u := a end; begin p(a) end.
abbrev takes_a : Block
takes_a = procedure (codes "p") 38 (3 ∷ []) (compound 57 (one (assign 2 63 3 (get 68 2))))

abbrev passes_implicit : Program
passes_implicit = integers (declared (codes "a") 0 0 role.Local 16 ∷ declared (codes "u") 0 1 role.Reference 44 ∷ [])
    (the_program (compound 75 (one (Does 2 (place 81) (Call 1 (Pass (ByReference (var 83 2)) Nothing))))) ∷ takes_a
    ∷ [])

pub I5_broken : Interferes passes_implicit rule.I5 (place 83)
I5_broken = (
  0,
  the_program (compound 75 (one (Does 2 (place 81) (Call 1 (Pass (ByReference (var 83 2)) Nothing))))),
  refl,
  CallsAt 1 (place 81) (Pass (ByReference (var 83 2)) Nothing),
  inl refl,
  inl (
    refl,
    (
      bare_block takes_a,
      refl,
      free (without_places passes_implicit) 0 2 _ _ refl refl refl refl,
      inr ([], inl (inr (inl refl))),
    ),
  ),
)

-- program e; var a, b: integer; procedure p(var u: integer); begin u := a end; begin p(b) end.
abbrev passes_other : Program
passes_other = integers (declared (codes "a") 0 0 role.Local 16 ∷ declared (codes "b") 0 0 role.Local 19
    ∷ declared (codes "u") 0 1 role.Reference 47 ∷ [])
    (the_program (compound 78 (one (Does 2 (place 84) (Call 1 (Pass (ByReference (var 86 3)) Nothing)))))
    ∷ procedure (codes "p") 41 (4 ∷ []) (compound 60 (one (assign 2 66 4 (get 71 2)))) ∷ [])

pub I5_kept : BreaksNone passes_other
I5_kept = breaks_none passes_other (claim [] [] ∷ claim [] (2 ∷ []) ∷ []) [] refl

-- I6: program e; var x: integer; procedure p; begin x := 1; p end; begin end.
abbrev calls_itself : Block
calls_itself = procedure (codes "p") 38 [] (compound 41
    (two (assign 2 47 2 (num 52 1)) (Does 3 (place 55) (Call 1 Nothing))))

abbrev recursive : Program
recursive = integers (declared (codes "x") 0 0 role.Local 16 ∷ []) (the_program (nothing_done 62) ∷ calls_itself ∷ [])

pub I6_broken : Interferes recursive rule.I6 (place 38)
I6_broken = (
  1,
  calls_itself,
  refl,
  refl,
  (0, 1, refl, bare_block calls_itself, refl, plain.Nothing, inr (inl (inl refl))),
  2,
  (
    bare_block calls_itself,
    refl,
    free (without_places recursive) 0 2 _ _ refl refl refl refl,
    inl
        ([], inl (inl (inl refl))),
  ),
  omega arith,
)

-- program e; procedure p; begin writeln; p end; begin end.
abbrev recursive_writer : Program
recursive_writer = integers [] (the_program (nothing_done 47)
    ∷ procedure (codes "p") 22 [] (compound 25 (two (Does 2 (place 31) WriteLine) (Does 3 (place 40) (Call 1 Nothing))))
    ∷ [])

pub I6_kept : BreaksNone recursive_writer
I6_kept = breaks_none recursive_writer (claim [] [] ∷ claim (1 ∷ []) [] ∷ []) (1 ∷ []) refl

-- program e; var x: integer; procedure p; begin x := 1 end; begin p end.
abbrev called_outside : Program
called_outside = integers (declared (codes "x") 0 0 role.Local 16 ∷ [])
    (the_program (compound 59 (one (Does 2 (place 65) (Call 1 Nothing))))
    ∷ procedure (codes "p") 38 [] (compound 41 (one (assign 2 47 2 (num 52 1)))) ∷ [])

pub I6_kept_outside : BreaksNone called_outside
I6_kept_outside = breaks_none called_outside (claim [] [] ∷ claim (2 ∷ []) [] ∷ []) [] refl

-- I7: program e; function f(var x: integer): integer; begin f := 1 end; begin end.
abbrev by_reference : Block
by_reference = function (codes "f") 21 (2 ∷ []) 3 (compound 49 (one (assign 2 55 3 (num 60 1))))

abbrev formal : Variable
formal = declared (codes "x") 0 1 role.Reference 27

pub I7_broken : Interferes (integers (formal ∷ declared (codes "f") 0 1 role.Answer 21 ∷ [])
    (the_program (nothing_done 67) ∷ by_reference ∷ [])) rule.I7 (place 27)
I7_broken = (1, by_reference, refl, (bare_block by_reference, 3, refl, refl), 2, inl refl, formal, refl, refl, refl)

-- program e; function f(x: integer): integer; begin f := 1 end; begin end.
abbrev by_value : Program
by_value = integers (declared (codes "x") 0 1 role.Value 23 ∷ declared (codes "f") 0 1 role.Answer 21 ∷ [])
    (the_program (nothing_done 63) ∷ function (codes "f") 21 (2 ∷ []) 3 (compound 45 (one (assign 2 51 3 (num 56 1))))
    ∷ [])

pub I7_kept : BreaksNone by_value
I7_kept = breaks_none by_value [] [] refl

-- I8: program e; var x: integer; function f: integer; begin x := 1; f := 1 end; begin end.
abbrev assigns_global : Block
assigns_global = function (codes "f") 37 [] 3 (compound 49 (two (assign 2 55 2 (num 60 1)) (assign 3 63 3 (num 68 1))))

abbrev global_and_answer : List Variable
global_and_answer = declared (codes "x") 0 0 role.Local 16 ∷ declared (codes "f") 0 1 role.Answer 37 ∷ []

abbrev with_effect : Program
with_effect = integers global_and_answer (the_program (nothing_done 75) ∷ assigns_global ∷ [])

pub I8_broken : Interferes with_effect rule.I8 (place 37)
I8_broken = (
  1,
  assigns_global,
  refl,
  refl,
  (bare_block assigns_global, 3, refl, refl),
  2,
  (
    bare_block assigns_global,
    refl,
    free (without_places with_effect) 0 2 _ _ refl refl refl refl,
    ([], inl (inl (inl refl))),
  ),
)

-- program e; var x: integer; function f: integer; begin f := x end; begin end.
abbrev sees_global : Program
sees_global = integers global_and_answer (the_program (nothing_done 67)
    ∷ function (codes "f") 37 [] 3 (compound 49 (one (assign 2 55 3 (get 60 2)))) ∷ [])

pub I8_kept : BreaksNone sees_global
I8_kept = breaks_none sees_global (claim [] [] ∷ claim [] (2 ∷ []) ∷ []) [] refl

-- I9: program e; type t = *(integer); function f: integer; var c: t; begin open(c); f := 1 end; begin end.
abbrev opens : Block
opens = function (codes "f") 42 [] 2 (compound 64
    (two (Does 2 (place 70) (Open (var 75 3))) (assign 3 79 2 (num 84 1))))

abbrev channels : List Variable → List Block → Program
channels xs bs = record { kinds = kind.Integer ∷ kind.Channel (0 ∷ []) ∷ []; variables = with_consoles xs; blocks = bs }

pub I9_broken : Interferes (channels (declared (codes "f") 0 1 role.Answer 42 ∷ declared (codes "c") 1 1 role.Local 58
    ∷ []) (the_program (nothing_done 91) ∷ opens ∷ [])) rule.I9 (place 70)
I9_broken = (1, opens, refl, (bare_block opens, 2, refl, refl), StopsAt (place 70), inl refl, refl)

-- program e; type t = *(integer); procedure f; var c: t; begin open(c) end; begin end.
abbrev procedure_opens : Program
procedure_opens = channels (declared (codes "c") 1 1 role.Local 50 ∷ [])
    (the_program (nothing_done 75) ∷ procedure (codes "f") 43 []
    (compound 56 (one (Does 2 (place 62) (Open (var 67 2))))) ∷ [])

pub I9_kept : BreaksNone procedure_opens
I9_kept = breaks_none procedure_opens [] (1 ∷ []) refl

-- I9 by a call in a selector:
-- program e; type t = array [1..2] of integer; function g: integer; begin g := 1; writeln end; function f: integer; var
-- a: t; begin a[g] := 1; f := 1 end; begin end.
abbrev writes : Block
writes = function (codes "g") 55 [] 2 (compound 67 (two (assign 2 73 2 (num 78 1)) (Does 3 (place 81) WriteLine)))

abbrev selects : ℕ → ℕ → Block
selects c d = function (codes "f") c [] 3 (compound (c + 22)
    (two (Does 2 (place d) (Assign (Entire 4 (place d)
    (Select (Index (ExpressionAt (place (d + 2)) 0 (Apply 1 (place (d + 2)) Nothing))) Whole)) (num (d + 8) 1)))
    (assign 3 (d + 11) 3 (num (d + 16) 1))))

abbrev arrays : ℕ → ℕ → List Block → Program
arrays c d bs = record {
  kinds = kind.Integer ∷ kind.Array (pos 1) (pos 2) 0 0 ∷ [];
  variables = with_consoles (declared (codes "g") 0 1 role.Answer 55 ∷ declared (codes "f") 0 2 role.Answer c
      ∷ declared (codes "a") 1 2 role.Local d ∷ []);
  blocks = bs;
}

pub I9_broken_in_a_selector : Interferes (arrays 103 119
    (the_program (nothing_done 154) ∷ writes ∷ selects 103 131 ∷ [])) rule.I9 (place 133)
I9_broken_in_a_selector = (
  2,
  selects 103 131,
  refl,
  (bare_block (selects 103 131), 3, refl, refl),
  CallsAt 1 (place 133) Nothing,
  inl refl,
  (refl, (bare_block writes, refl, [], inr (inl (inr refl)))),
)

-- program e; type t = array [1..2] of integer; function g: integer; begin g := 1 end; function f: integer; var a: t;
-- begin a[g] := 1; f := 1 end; begin end.
abbrev calls_silent : Program
calls_silent = arrays 94 110 (the_program (nothing_done 145)
    ∷ function (codes "g") 55 [] 2 (compound 67 (one (assign 2 73 2 (num 78 1)))) ∷ selects 94 122 ∷ [])

pub I9_kept_in_a_selector : BreaksNone calls_silent
I9_kept_in_a_selector = breaks_none calls_silent [] [] refl
