pub mod DrawnRows
pub mod GridEdges
pub mod GridFaults
pub mod GridPlaces
pub mod GridTexts
pub mod GridTriangles
pub mod RoundRows
