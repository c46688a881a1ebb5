pub mod Mosaic
pub mod Bayer
pub mod Centre
pub mod Colour
