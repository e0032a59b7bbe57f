pub mod Deliveries
mod Resuming
mod SortedStrings
mod Unions
mod HeadLemmas
mod Leaves
mod Folds
mod Joinings
mod StringsOfHeads
mod GoodLists
mod SearchLemmas
mod Strings
mod ListParts
