mod ClassLines
mod Rising
mod ConstantLists
mod EntryLines
mod HeadLines
