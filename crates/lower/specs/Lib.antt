pub mod LoopFronts
pub mod StartedBlocks
pub mod Graphs
pub mod Walks
pub mod StatementFronts
pub mod LabelStarts
