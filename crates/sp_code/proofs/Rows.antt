-- Worked code, run by the definitions. std's decimal digits do not compute here, so numbers are written as chars.
use Rattle.std.specs.Prelude.{◌≡◌, pos, [], ◌∷◌, Some, None, true, false, codes, refl}
use Rattle.sp_base.specs.declared.fault.Fault.TheVariants as fault
use Rattle.sp_base.specs.declared.limits.TheConstants.{MAXINT}
use Rattle.sp_code.specs.declared.instr.Instr.TheVariants as i
use Rattle.sp_code.specs.declared.code.Formal.TheVariants as formal
use Rattle.sp_code.specs.declared.code.Parts.{Parts}
use Rattle.sp_code.specs.Machine.{Ends, Pauses}
use Rattle.sp_code.specs.Memory.{CodeRun}
use Rattle.sp_code.proofs.Small.{wide, code_of, main, first_turn, seen}

abbrev of : Parts → CodeRun
of code = record { code = code; input = []; limits = wide; pause = 100000 }

-- x := 6; write(x * 7)
abbrev product_as_char : Parts
product_as_char = code_of (i.Addr 0 2 ∷ i.Const (pos 6) ∷ i.Store ∷ i.Addr 0 2 ∷ i.Load ∷ i.Const (pos 7) ∷ i.Mul
    ∷ i.WriteChar
    ∷ i.End ∷ []) (main (1 ∷ []) ∷ [])

writes_42 : seen (first_turn (of product_as_char)) ≡ (Some Ends, None, 42 ∷ [])
writes_42 = refl

-- an ordinal above 255, which only code from a file can write as a char, is written modulo 256
writes_modulo_256 : seen (first_turn (of (code_of (i.Const (pos 298) ∷ i.WriteChar ∷ i.End ∷ []) (main [] ∷ []))))
    ≡ (Some Ends, None, 42 ∷ [])
writes_modulo_256 = refl

-- the program's frame has one cell
fits_one_cell : seen (first_turn (record (of product_as_char) { limits = record wide { cells = 1 } }))
    ≡ (Some Ends, None, 42 ∷ [])
fits_one_cell = refl

too_large : seen (first_turn (record (of product_as_char) { limits = record wide { cells = 0 } }))
    ≡ (None, Some fault.F12, [])
too_large = refl

no_room : seen (first_turn (record (of product_as_char) { limits = record wide { output = 0 } }))
    ≡ (None, Some fault.F16, [])
no_room = refl

-- x := maxint; x := x + 1
overflow : seen (first_turn (of (code_of (i.Addr 0 2 ∷ i.Const MAXINT ∷ i.Store ∷ i.Addr 0 2 ∷ i.Addr 0 2 ∷ i.Load
    ∷ i.Const (pos 1) ∷ i.Add ∷ i.Store ∷ i.End ∷ []) (main (1 ∷ []) ∷ [])))) ≡ (None, Some fault.F2, [])
overflow = refl

-- write(x), where nothing was assigned to x
undefined : seen (first_turn (of (code_of (i.Addr 0 2 ∷ i.Load ∷ i.WriteChar ∷ i.End ∷ []) (main (1 ∷ []) ∷ []))))
    ≡ (None, Some fault.F4, [])
undefined = refl

-- for x := 1 to 3 do write(x)
abbrev loop : Parts
loop = code_of (i.Const (pos 1) ∷ i.Const (pos 3) ∷ i.Forup 2 8 ∷ i.Tick ∷ i.Addr 0 2 ∷ i.Load ∷ i.WriteChar
    ∷ i.Nextup 2 3 ∷ i.End ∷ []) (main (1 ∷ []) ∷ [])

counts : seen (first_turn (of loop)) ≡ (Some Ends, None, 1 ∷ 2 ∷ 3 ∷ [])
counts = refl

ticks_run_out : seen (first_turn (record (of loop) { limits = record wide { ticks = 2 } }))
    ≡ (None, Some fault.F10, 1 ∷ 2 ∷ [])
ticks_run_out = refl

ticks_are_enough : seen (first_turn (record (of loop) { limits = record wide { ticks = 3 } }))
    ≡ (Some Ends, None, 1 ∷ 2 ∷ 3 ∷ [])
ticks_are_enough = refl

-- it pauses after its second tick
pauses : seen (first_turn (record (of loop) { pause = 2 })) ≡ (Some Pauses, None, 1 ∷ [])
pauses = refl

-- procedure p(n: integer); begin write(n); if n > 0 then p(n - 1) end; begin p(2) end
abbrev calls : Parts
calls = code_of
    (i.Const (pos 2) ∷ i.Call 1 0 ∷ i.End ∷ i.Addr 0 0 ∷ i.Load ∷ i.WriteChar ∷ i.Addr 0 0 ∷ i.Load ∷ i.Const (pos 0)
    ∷ i.Gt ∷ i.Jumpf 16 ∷ i.Addr 0 0 ∷ i.Load ∷ i.Const (pos 1) ∷ i.Sub ∷ i.Call 1 1 ∷ i.Return ∷ [])
    (main [] ∷ record {
      block = 1;
      entry = 3;
      parent = Some 0;
      answer = false;
      sizes = 1 ∷ [];
      variables = 2 ∷ [];
      formals = formal.Value 1 ∷ [];
    } ∷ [])

calls_itself : seen (first_turn (of calls)) ≡ (Some Ends, None, 2 ∷ 1 ∷ 0 ∷ [])
calls_itself = refl

too_deep : seen (first_turn (record (of calls) { limits = record wide { depth = 2 } }))
    ≡ (None, Some fault.F11, 2 ∷ 1 ∷ [])
too_deep = refl

too_many_cells : seen (first_turn (record (of calls) { limits = record wide { cells = 2 } }))
    ≡ (None, Some fault.F12, 2 ∷ 1 ∷ [])
too_many_cells = refl

-- a call pauses like a tick
pauses_at_a_call : seen (first_turn (record (of calls) { pause = 2 })) ≡ (Some Pauses, None, 2 ∷ [])
pauses_at_a_call = refl

-- function f(n: integer): integer; begin if n = 0 then f := 1 else f := n * f(n - 1) end; begin write(f(5)) end
abbrev factorial : Parts
factorial = code_of
    (i.Const (pos 5) ∷ i.Call 1 0 ∷ i.WriteChar ∷ i.End ∷ i.Addr 0 0 ∷ i.Load ∷ i.Const (pos 0) ∷ i.Eq ∷ i.Jumpf 13
    ∷ i.Addr 0 1 ∷ i.Const (pos 1) ∷ i.Store ∷ i.Jump 23
    ∷ i.Addr 0 1 ∷ i.Addr 0 0 ∷ i.Load ∷ i.Addr 0 0 ∷ i.Load ∷ i.Const (pos 1) ∷ i.Sub ∷ i.Call 1 1 ∷ i.Mul ∷ i.Store
    ∷ i.Return ∷ [])
    (main [] ∷ record {
      block = 1;
      entry = 4;
      parent = Some 0;
      answer = true;
      sizes = 1 ∷ 1 ∷ [];
      variables = 2 ∷ 3 ∷ [];
      formals = formal.Value 1 ∷ [];
    } ∷ [])

gives_120 : seen (first_turn (of factorial)) ≡ (Some Ends, None, 120 ∷ [])
gives_120 = refl

-- no process pauses while a function is being called
functions_never_pause : seen (first_turn (record (of factorial) { pause = 2 })) ≡ (Some Ends, None, 120 ∷ [])
functions_never_pause = refl

depth_of_six : seen (first_turn (record (of factorial) { limits = record wide { depth = 6 } }))
    ≡ (Some Ends, None, 120 ∷ [])
depth_of_six = refl

depth_of_five : seen (first_turn (record (of factorial) { limits = record wide { depth = 5 } }))
    ≡ (None, Some fault.F11, [])
depth_of_five = refl

-- a function that ends without a result
no_result : seen (first_turn (of (code_of (i.Call 1 0 ∷ i.WriteChar ∷ i.End ∷ i.Return ∷ [])
    (main [] ∷ record {
      block = 1;
      entry = 3;
      parent = Some 0;
      answer = true;
      sizes = 1 ∷ [];
      variables = 2 ∷ [];
      formals = [];
    } ∷ [])))) ≡ (None, Some fault.F4, [])
no_result = refl

-- procedure p(var u: integer); begin u := 7 end; begin p(a[2]); write(a[2]) end, where a has elements 1 to 3
abbrev by_reference : Parts
by_reference = code_of
    (i.Addr 0 2 ∷ i.Const (pos 2) ∷ i.Index (pos 1) (pos 3) 1 ∷ i.Call 1 0 ∷ i.Addr 0 2 ∷ i.Const (pos 2)
    ∷ i.Index (pos 1) (pos 3) 1 ∷ i.Load ∷ i.WriteChar ∷ i.End ∷ i.Deref 0 0 ∷ i.Const (pos 7) ∷ i.Store ∷ i.Return
    ∷ [])
    (main (3 ∷ []) ∷ record {
      block = 1;
      entry = 10;
      parent = Some 0;
      answer = false;
      sizes = 1 ∷ [];
      variables = 3 ∷ [];
      formals = formal.Reference 1 ∷ [];
    } ∷ [])

assigns_by_reference : seen (first_turn (of by_reference)) ≡ (Some Ends, None, 7 ∷ [])
assigns_by_reference = refl

-- case 3 of 1, 2: write(1) end
no_case : seen (first_turn (of (code_of (i.Const (pos 3) ∷ i.Casej (pos 1) 4 ∷ i.Casej (pos 2) 4 ∷ i.Nocase
    ∷ i.Const (pos 1) ∷ i.WriteChar ∷ i.Jump 7 ∷ i.End ∷ []) (main [] ∷ [])))) ≡ (None, Some fault.F9, [])
no_case = refl

-- read(x); write(x); read(y), of `12 x`, of `12` and of `12 34`
abbrev reading : Parts
reading = code_of (i.Addr 0 2 ∷ i.ReadInt ∷ i.Addr 0 2 ∷ i.Load ∷ i.WriteChar ∷ i.Addr 0 3 ∷ i.ReadInt ∷ i.End ∷ [])
    (main (1 ∷ 1 ∷ []) ∷ [])

no_number : seen (first_turn (record (of reading) { input = codes "12 x" })) ≡ (None, Some fault.F17, 12 ∷ [])
no_number = refl

past_the_end : seen (first_turn (record (of reading) { input = codes "12" })) ≡ (None, Some fault.F18, 12 ∷ [])
past_the_end = refl

two_numbers : seen (first_turn (record (of reading) { input = codes "12 34" })) ≡ (Some Ends, None, 12 ∷ [])
two_numbers = refl
