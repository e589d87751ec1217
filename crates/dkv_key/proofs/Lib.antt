mod Escapes
mod Numbers
mod Doubles
mod PartOrder
mod Fronts
mod Stamping
mod Finding
