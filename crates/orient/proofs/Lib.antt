pub mod EndParts
