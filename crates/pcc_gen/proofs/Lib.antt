mod Drawing
mod Following
mod Putting
mod Short
