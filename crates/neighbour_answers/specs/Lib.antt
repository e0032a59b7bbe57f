pub mod RingAnswer
pub mod TableAnswer
pub mod CellsAnswer
pub mod LatticeAnswer
pub mod Laws
pub mod LatticeLaws
