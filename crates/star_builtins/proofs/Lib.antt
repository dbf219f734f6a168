pub mod IntegerLemmas
pub mod FitLemmas
pub mod ChargeLemmas
pub mod PlaceLemmas
pub mod IndexLemmas
pub mod FollowLemmas
pub mod TakenLemmas
pub mod SliceLemmas
pub mod ListLemmas
pub mod QuotientLemmas
pub mod PartLemmas
pub mod OperandLemmas
mod Written
mod Words
mod Held
mod Quoted
pub mod FilledLemmas
pub mod WeighedLemmas
mod Charged
mod Outs
mod Weighed
mod Ordered
mod CallLemmas
mod WalkLemmas
mod TruthLemmas
pub mod ChangeLemmas
mod RowLemmas
mod DepthLemmas
mod TupleLemmas
pub mod ChangedLemmas
pub mod KeyLemmas
mod NumeralLemmas
mod RangeRows
mod PrintLemmas
mod InsertionLemmas
mod SortLemmas
mod SortRows
mod BuiltinTable
mod CountLemmas
mod JoinLemmas
mod GivenTexts
mod TextLemmas
mod NameLemmas
mod RowGiven
mod MethodLemmas
mod Sequences
mod Keyed
mod Rowed
mod Columns
mod PairWalks
mod PutLemmas
mod TableLemmas
mod DictLemmas
