mod CodeRows
mod EffectRows
mod ParallelRows
