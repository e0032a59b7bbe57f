mod WordNumbers
mod TableNumbers
mod Pieces
mod ReadFiles
mod ClaimLength
mod TraceFiles
mod CellFiles
mod ProductFiles
mod FirstBad
mod RunFiles
pub mod LawProofs
