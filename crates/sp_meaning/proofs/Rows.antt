-- Worked programs in one schedule or another, by computing. std's decimal digits do not compute here, so numbers are
-- written as chars.
use Rattle.std.proofs.Common.{◌≡◌, ℕ, List, [], ◌∷◌, Some, None, refl}
use Rattle.std.specs.Prelude.{negsuc, pos}
use Rattle.sp_base.specs.declared.fault.Fault.TheVariants as fault
use Rattle.sp_journal.specs.declared.entry.Way.TheVariants as way
use Rattle.sp_tree.specs.declared.checked.KindOf.TheVariants as kind
use Rattle.sp_tree.specs.declared.checked.Role.TheVariants as role
use Rattle.sp_tree.specs.declared.operators.BinaryOp.TheVariants as binary
use Rattle.sp_tree.specs.declared.operators.StandardFn.TheVariants as standard
use Rattle.sp_tree.specs.Plain.{Expr, Typed, Number, Binary, Standard, Entire, Whole, Var, Nothing, Pass, ByValue}
use Rattle.sp_tree.specs.Plain.{Empty, Stmt, Assign, Call, Sequence, Parallel, Forall, WriteValue, Open, Send, Receive}
use Rattle.sp_meaning.specs.Model.{Name}
use Rattle.sp_meaning.specs.LocalWork.{RunInput}
use Rattle.sp_meaning.specs.Runs.{StateOf, next_state}
use Rattle.sp_meaning.specs.Ends.{IsDone, WaitsSo}
use Rattle.sp_meaning.proofs.Faults.{of, ample, fault_of, after, prints, console, read, child, num, root, sequence}

-- types integer, *(integer) and char; variable 2 is a channel, 3 and 4 are integers
abbrev with_body : List Stmt → RunInput
with_body ss = of (record {
  kinds = kind.Integer ∷ kind.Channel (0 ∷ []) ∷ kind.Char ∷ [];
  variables = console ∷ console ∷ record { kind = 1; block = 0; role = role.Local }
      ∷ record { kind = 0; block = 0; role = role.Local } ∷ record { kind = 0; block = 0; role = role.Local } ∷ [];
  blocks = record { parent = None; formals = []; answer = None; body = Sequence (sequence ss) } ∷ [];
}) ample

abbrev x : Var
x = Entire 3 Whole

abbrev y : Var
y = Entire 4 Whole

abbrev opens : Stmt
opens = Open (Entire 2 Whole)

abbrev sends : ℕ → Stmt
sends n = Send (read 1 2) (num n)

abbrev receives : Var → Stmt
receives v = Receive (read 1 2) v

abbrev both : List Stmt → Stmt
both ss = Sequence (sequence ss)

abbrev add : Expr → ℕ → Expr
add e n = Typed 0 (Binary binary.Add e (num n))

-- write(chr(e))
abbrev writes : Expr → Stmt
writes e = WriteValue (Typed 2 (Standard standard.Chr e)) None

-- write(chr(48 + v)), a digit
abbrev digit : ℕ → Stmt
digit v = writes (add (read 0 v) 48)

-- x := 6; write(chr(x * 7))
abbrev product : RunInput
product = with_body (Assign x (num 6) ∷ writes (Typed 0 (Binary binary.Mul (read 0 3) (num 7))) ∷ [])

-- three steps: it prints char 42 and is done; a fourth name can make no step; with two steps there is no end
product_prints : prints product (root ∷ root ∷ root ∷ []) ≡ 42 ∷ []
product_prints = refl

product_done : IsDone product (after product (root ∷ root ∷ root ∷ []))
product_done = refl

product_over : next_state product (after product (root ∷ root ∷ root ∷ [])) root ≡ None
product_over = refl

product_early : prints product (root ∷ root ∷ []) ≡ 42 ∷ []
product_early = refl

-- a constant above 255, which no accepted program has, is written modulo 256
modulo_256 : prints (with_body (WriteValue (Typed 2 (Number (pos 298))) None ∷ [])) (root ∷ root ∷ []) ≡ 42 ∷ []
modulo_256 = refl

-- with no room for processes, an `open` still counts its channel alone
opens_alone : fault_of (record (with_body (opens ∷ [])) { limits = record ample { processes = 0 } }) (root ∷ root ∷ [])
    ≡ None
opens_alone = refl

-- open(c); parallel begin receive(c, x); receive(c, y) end | send(c, 1) | send(c, 2) end; write(x, y)
abbrev raced : RunInput
raced = with_body (opens ∷ Parallel (sequence (both (receives x ∷ receives y ∷ []) ∷ sends 1 ∷ sends 2 ∷ [])) ∷ digit 3
    ∷ digit 4 ∷ [])

-- the one order, and the other
raced_one : prints raced (root ∷ root ∷ child 0 ∷ child 1 ∷ child 0 ∷ child 2 ∷ child 0 ∷ child 1 ∷ child 2 ∷ root
    ∷ root ∷ root ∷ []) ≡ 49 ∷ 50 ∷ []
raced_one = refl

raced_other : prints raced (root ∷ root ∷ child 0 ∷ child 2 ∷ child 0 ∷ child 1 ∷ child 0 ∷ child 1 ∷ child 2 ∷ root
    ∷ root ∷ root ∷ []) ≡ 50 ∷ 49 ∷ []
raced_other = refl

raced_done : IsDone raced (after raced (root ∷ root ∷ child 0 ∷ child 2 ∷ child 0 ∷ child 1 ∷ child 0 ∷ child 1
    ∷ child 2 ∷ root ∷ root ∷ root ∷ []))
raced_done = refl

-- and a third, in which the two senders contend
raced_contends : fault_of raced (root ∷ root ∷ child 1 ∷ child 2 ∷ []) ≡ Some (child 2, fault.F6)
raced_contends = refl

-- open(c); parallel begin send(c, 1); send(c, 2) end | receive(c, x) | receive(c, y) end
abbrev receivers : RunInput
receivers = with_body (opens ∷ Parallel (sequence (both (sends 1 ∷ sends 2 ∷ []) ∷ receives x ∷ receives y ∷ [])) ∷ [])

receivers_done : IsDone receivers (after receivers
    (root ∷ root ∷ child 0 ∷ child 1 ∷ child 0 ∷ child 2 ∷ child 0 ∷ child 1 ∷ child 2 ∷ root ∷ []))
receivers_done = refl

-- open(c); parallel send(c, 1) | send(c, 2) | receive(c, x) end
abbrev contending : RunInput
contending = with_body (opens ∷ Parallel (sequence (sends 1 ∷ sends 2 ∷ receives x ∷ [])) ∷ [])

contention : fault_of contending (root ∷ root ∷ child 0 ∷ child 1 ∷ []) ≡ Some (child 1, fault.F6)
contention = refl

-- open(c); receive(c, x): the root waits, and nobody can step
abbrev alone : RunInput
alone = with_body (opens ∷ receives x ∷ [])

abbrev waiting : StateOf alone
waiting = after alone (root ∷ root ∷ [])

alone_waits : WaitsSo alone waiting (record { who = []; way = way.Receive; channel = record { owner = []; nth = 0 } })
alone_waits = (_, refl, refl, refl)

alone_stuck : next_state alone waiting root ≡ None
alone_stuck = refl

-- the same channel twice, in forks one after the other
abbrev joined : RunInput
joined = with_body (opens ∷ Parallel (sequence (sends 1 ∷ receives x ∷ []))
    ∷ Parallel (sequence (sends 2 ∷ receives y ∷ [])) ∷ digit 3 ∷ digit 4 ∷ [])

abbrev later : ℕ → Name
later i = (1, i) ∷ []

joined_prints : prints joined (root ∷ root ∷ child 0 ∷ child 1 ∷ child 0 ∷ child 1 ∷ root ∷ later 1 ∷ later 0 ∷ later 0
    ∷ later 1 ∷ root ∷ root ∷ root ∷ []) ≡ 49 ∷ 50 ∷ []
joined_prints = refl

-- procedure node(i: integer); begin end; forall i := 1 to 0 do node(i)
abbrev nobody : RunInput
nobody = of (record {
  kinds = kind.Integer ∷ [];
  variables = console ∷ console ∷ record { kind = 0; block = 1; role = role.Value }
      ∷ record { kind = 0; block = 0; role = role.Index } ∷ [];
  blocks = record {
    parent = None;
    formals = [];
    answer = None;
    body = Forall 3 (num 1) (num 0) (Call 1 (Pass (ByValue (read 0 3)) Nothing));
  }
      ∷ record { parent = Some 0; formals = 2 ∷ []; answer = None; body = Empty } ∷ [];
}) ample

nobody_done : IsDone nobody (after nobody (root ∷ root ∷ []))
nobody_done = refl

-- -7 div 2 is -3, and -7 mod 2 is 1
abbrev minus_seven : Expr
minus_seven = Typed 0 (Number (negsuc 6))

quotients : prints (with_body (writes (add (Typed 0 (Binary binary.Div minus_seven (num 2))) 51)
    ∷ writes (add (Typed 0 (Binary binary.Mod minus_seven (num 2))) 48) ∷ [])) (root ∷ root ∷ []) ≡ 48 ∷ 49 ∷ []
quotients = refl
