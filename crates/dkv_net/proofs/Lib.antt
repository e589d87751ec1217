mod Fronts
mod Pieces
