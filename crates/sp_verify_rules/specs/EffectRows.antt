-- None of this belongs to what the program promises: it is for contracts between crates.
-- Small codes that the rows of V6 and V7 are computed on.
use Rattle.std.specs.Prelude.{[], ◌∷◌, Some, None, false, pos}
use Rattle.sp_code.specs.declared.instr.Instr.TheVariants as i
use Rattle.sp_code.specs.declared.code.Formal.TheVariants as formal
use Rattle.sp_code.specs.declared.code.Parts.{Parts}

-- two children, to both of which variable 2 moves
abbrev pub clashing_children : Parts
clashing_children = record {
  instrs = i.Fork 0 ∷ i.End ∷ i.End ∷ i.End ∷ [];
  layouts = record {
    block = 0;
    entry = 0;
    parent = None;
    answer = false;
    sizes = 1 ∷ [];
    variables = 2 ∷ [];
    formals = [];
  } ∷ [];
  forks = record {
    children = record { entry = 2; moved = 2 ∷ []; shared = []; index = None } ∷ record {
      entry = 3;
      moved = 2 ∷ [];
      shared = [];
      index = None;
    } ∷ [];
  } ∷ [];
  texts = [];
}

-- a procedure with two variable parameters, called with variable 2 twice
abbrev pub doubled_actuals : Parts
doubled_actuals = record {
  instrs = i.Addr 0 2 ∷ i.Addr 0 2 ∷ i.Call 1 0 ∷ i.End ∷ i.Return ∷ [];
  layouts = record {
    block = 0;
    entry = 0;
    parent = None;
    answer = false;
    sizes = 1 ∷ [];
    variables = 2 ∷ [];
    formals = [];
  }
      ∷ record {
        block = 1;
        entry = 4;
        parent = Some 0;
        answer = false;
        sizes = 1 ∷ 1 ∷ [];
        variables = 3 ∷ 4 ∷ [];
        formals = formal.Reference 1 ∷ formal.Reference 1 ∷ [];
      } ∷ [];
  forks = [];
  texts = [];
}

-- a procedure that is called by a child stores variable 2, which does not move to the child
abbrev pub distant_store : Parts
distant_store = record {
  instrs = i.Fork 0 ∷ i.End ∷ i.Call 1 0 ∷ i.End ∷ i.Addr 1 2 ∷ i.Const (pos 7) ∷ i.Store ∷ i.Return ∷ [];
  layouts = record {
    block = 0;
    entry = 0;
    parent = None;
    answer = false;
    sizes = 1 ∷ [];
    variables = 2 ∷ [];
    formals = [];
  }
      ∷ record { block = 1; entry = 4; parent = Some 0; answer = false; sizes = []; variables = []; formals = [] } ∷ [];
  forks = record { children = record { entry = 2; moved = []; shared = []; index = None } ∷ [] } ∷ [];
  texts = [];
}

-- two children, each of which stores the variable that moves to it
abbrev pub doubly_moved : Parts
doubly_moved = record {
  instrs = i.Fork 0 ∷ i.End ∷ i.Addr 0 2 ∷ i.Const (pos 7) ∷ i.Store ∷ i.End ∷ i.Addr 0 3 ∷ i.Const
      (pos 8) ∷ i.Store ∷ i.End ∷ [];
  layouts = record {
    block = 0;
    entry = 0;
    parent = None;
    answer = false;
    sizes = 1 ∷ 1 ∷ [];
    variables = 2 ∷ 3 ∷ [];
    formals = [];
  } ∷ [];
  forks = record {
    children = record { entry = 2; moved = 2 ∷ []; shared = []; index = None } ∷ record {
      entry = 6;
      moved = 3 ∷ [];
      shared = [];
      index = None;
    } ∷ [];
  } ∷ [];
  texts = [];
}
