pub mod EndsSoFar
