mod Advancing
mod Beginning
mod Failing
