mod Widths
mod Reading
mod Cut
