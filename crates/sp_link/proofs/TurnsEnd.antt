-- That a turn ends, as `sp_codegen` proves it (`this_turn_ends`).
pub use Rattle.sp_codegen.proofs.TurnsEnd.{Ended, turn_ends, enough_turn, this_turn_ends}
