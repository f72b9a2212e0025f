-- A layer in parts: what a part is and what is left (Parts), and why a layer has no plane (Faults).
pub mod Faults
pub mod Parts
