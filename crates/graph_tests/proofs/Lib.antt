mod Ordered
mod Fresh
