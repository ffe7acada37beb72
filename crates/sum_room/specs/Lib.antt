pub mod SumObject
