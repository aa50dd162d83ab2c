mod Relink
mod Fresh
