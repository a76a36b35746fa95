-- nodes, what they place, and which nodes a box has
pub mod Nodes
-- what a box is seen as, and its invariant
pub mod Boxes
-- places put after others
pub mod Putting
